-- What becomes of a step by a rule, by the graphs of its terms.
use Rattle.std.proofs.Common.{◌≡◌, ℕ, ◌≤◌, List, length, sym, ◌∙◌, ap, subst, arith}
use Rattle.chyp_term.specs.Derivation.{IsEquation}
use Rattle.chyp_term.specs.Measure.{size_of}
use Rattle.chyp_term.specs.Morphism.{IsTyped, Morphism}
use Rattle.chyp_term.specs.Step.{by_laws, by_rule}
use Rattle.chyp_graph.specs.GraphOf.{graph_of}
use Rattle.chyp_graph.specs.Isomorphism.{Isomorphic}
use Rattle.chyp_graph.specs.PlainGraph.{PlainGraph}
use Rattle.chyp_graph.specs.Validity.{IsValid}
use Rattle.chyp_graph.proofs.Leaves.{edges-size, wires-size}
use Rattle.chyp_graph.proofs.Validity.{valid}
use Rattle.chyp_pattern.specs.Occurrence.{IsOccurrence}
use Rattle.chyp_pattern.specs.Pattern.{IsPattern, Parts}
use Rattle.chyp_pattern.specs.Placements.{ArePlacements}
use Rattle.chyp_pattern.specs.Replacement.{IsGraphRule, replaced}
use Rattle.chyp_pattern.specs.declared.anchor.Anchor.{Anchor}
use Rattle.chyp_pattern.specs.declared.occurrence.Occurrence.{Occurrence}
use Rattle.chyp_iso.specs.Scratch.{HasRoomFor}
use Rattle.chyp_match.specs.Occurring.{OccurrencesAreBounded}
use Rattle.chyp_replace.proofs.Sizes.{replaced-edges, replaced-wires}
use Rattle.chyp_laws.specs.Laws.{DerivationsAreIsomorphisms, IsomorphismsAreDerivations}
use Rattle.chyp_laws.specs.Rewriting.{RewritesAreGraphs}
use Rattle.chyp_simp.specs.Run.{most_placements}
use Rattle.chyp_simp.proofs.Contexts.{graph-rule}
use Rattle.chyp_judge.specs.Judged.{HavePlacements, IsJudgement, derived, not_derived, rewrites, rewrites_not}
use Rattle.chyp_judge.specs.Rewrite.{HaveSizes, IsRewrite, IsTried, missed, reached}
use Rattle.chyp_judge.specs.declared.judged.Judged.{Judged}
use Rattle.chyp_judge.specs.declared.judged.Judged.TheVariants.{Differs, Good}
use Rattle.chyp_judge.specs.declared.rewrite.Rewrite.{Rewrite}

-- the rewrite of these graphs
abbrev pub rewrite_of : List Anchor → PlainGraph → PlainGraph → PlainGraph → PlainGraph → Rewrite
rewrite_of anchors f l r t = record { from = f; left = record { graph = l; anchors = anchors }; right = r; to = t }

pub same-rewrite : (s : Rewrite) (f l r t : PlainGraph) → s.from ≡ f → s.left.graph ≡ l → s.right ≡ r → s.to ≡ t → s ≡ rewrite_of s.left.anchors f l r t
same-rewrite s f l r t a b c d =
    ap (λ (x : PlainGraph). rewrite_of s.left.anchors x s.left.graph s.right s.to) a
    ∙ ap (λ (x : PlainGraph). rewrite_of s.left.anchors f x s.right s.to) b
    ∙ ap (λ (x : PlainGraph). rewrite_of s.left.anchors f l x s.to) c
    ∙ ap (λ (x : PlainGraph). rewrite_of s.left.anchors f l r x) d

-- what is tried with the graphs of terms is a judgement on the terms
pub tried-judged : RewritesAreGraphs → (l r t u : Morphism) → IsEquation l r → IsEquation t u → (anchors : List Anchor) {n : ℕ} → HavePlacements l t n → n ≤ most_placements
    → (judged : Judged)
    → IsTried (rewrite_of anchors (graph_of t) (graph_of l) (graph_of r) (graph_of u)) judged
    → IsJudgement (by_rule (l, r)) t u judged
tried-judged exact l r t u e f anchors p few judged (reached o at same) =
    rewrites p few ((exact l r t u e f).1 (record { es = o.edges; ws = o.wires; occurs = at; same = same }))
tried-judged exact l r t u e f anchors p few judged (missed os are many none) =
    rewrites_not p few
    (λ c.
    let w = (exact l r t u e f).0 c in
    let o : Occurrence = record { edges = w.es; wires = w.ws } in
    none o ((are.members o).1 w.occurs) w.same)
    (record { occurrences = os; are = are; many = many })

-- graphs that are isomorphic to one another decide a step by the laws
pub laws-derived : IsomorphismsAreDerivations → (t u : Morphism) → IsEquation t u → (g h : PlainGraph) → g ≡ graph_of t → h ≡ graph_of u → Isomorphic g h
    → IsJudgement by_laws t u Good
laws-derived complete t u e g h p q iso =
    derived (complete t u e.left e.right (subst (λ (x : PlainGraph). Isomorphic x (graph_of u)) p (subst (λ (x : PlainGraph). Isomorphic g x) q iso)))

pub laws-differ : DerivationsAreIsomorphisms → (t u : Morphism) → (g h : PlainGraph) → g ≡ graph_of t → h ≡ graph_of u → (Isomorphic g h → ⊥)
    → IsJudgement by_laws t u Differs
laws-differ sound t u g h p q none =
    not_derived (λ d. none (subst (λ (x : PlainGraph). Isomorphic g x) (sym q) (subst (λ (x : PlainGraph). Isomorphic x (graph_of u)) (sym p) (sound t u d))))

-- the placements of a pattern are those of its term
pub have-placements : (l t : Morphism) (left : Parts) (g : PlainGraph) (n : ℕ) → IsPattern left → left.graph ≡ graph_of l → g ≡ graph_of t → ArePlacements left g n
    → HavePlacements l t n
have-placements l t left g n is p q are = record { pattern = left; is_pattern = is; of_left = p; are = subst (λ (x : PlainGraph). ArePlacements left x n) q are }

-- terms within the limits, with few placements, can be rewritten
pub is-rewrite : OccurrencesAreBounded → (s : Rewrite) (l r t : Morphism) → IsEquation l r → IsTyped t → size_of t ≤ 200000 → size_of r ≤ 200000 → IsPattern s.left
    → s.from ≡ graph_of t → s.left.graph ≡ graph_of l → s.right ≡ graph_of r → (n : ℕ) → ArePlacements s.left s.from n → n ≤ 65536
    → IsRewrite s
is-rewrite bounded s l r t e ty small_t small_r pattern p q o n placements few = record {
  rule = subst (λ (x : PlainGraph). IsGraphRule x s.right) (sym q) (subst (λ (x : PlainGraph). IsGraphRule (graph_of l) x) (sym o) (graph-rule l r e));
  few_edges =
      let a = ap (λ (x : PlainGraph). length x.edges) p in
      let b = ap (λ (x : PlainGraph). length x.edges) o in
      let c = edges-size t in
      let d = edges-size r in
      omega arith;
  few_wires =
      let a = ap (λ (x : PlainGraph). length x.wires) p in
      let b = ap (λ (x : PlainGraph). length x.wires) o in
      let c = wires-size t ty in
      let d = wires-size r e.right in
      omega arith;
  few = λ os a.
      let b = bounded s.left s.from placements.counts os pattern (subst IsValid (sym p) (valid t ty)) placements.are a in
      let m = placements.is in
      omega arith;
}

-- there is room for a graph with an occurrence replaced that has the size of another one
pub has-room : (s : Rewrite) (o : Occurrence) → IsOccurrence s.left.graph s.from o.edges o.wires → HaveSizes s → (edges wires : ℕ) → HasRoomFor edges wires s.to
    → (h : PlainGraph) → h ≡ replaced s.from s.left.graph s.right o.edges o.wires → HasRoomFor edges wires h
has-room s o at sizes edges wires room h e = record {
  few_edges =
      let a = ap (λ (x : PlainGraph). length x.edges) e in
      let b = replaced-edges s.left.graph s.right s.from o.edges o.wires at in
      let c = sizes.edges in
      let d = room.few_edges in
      omega arith;
  few_wires =
      let a = ap (λ (x : PlainGraph). length x.wires) e in
      let b = replaced-wires s.left.graph s.right s.from o.edges o.wires at in
      let c = sizes.wires in
      let d = room.few_wires in
      omega arith;
}
