-- The graphs of the sides of an equation are a rule.
use Rattle.std.proofs.Common.{◌≡◌, ℕ, suc, ◌+◌, ◌<◌, List, All, [], ◌∷◌, ◌++◌, map, take, length, sym, ◌∙◌, ap, ap₂, subst, arith}
use Rattle.std.specs.Prelude.{get_or}
use Rattle.std.proofs.lemmas.List.Elements.{All-append, All-cons, All-contains, All-nil}
use Rattle.std.proofs.lemmas.List.{map-append}
use Rattle.std.proofs.Math.Seq.{take-suc}
use Rattle.chyp_term.specs.Derivation.{IsEquation}
use Rattle.chyp_term.specs.Equation.{equation_of, equations_of}
use Rattle.chyp_term.specs.Term.{morphism_of}
use Rattle.chyp_term.specs.declared.equation.Equation.{Equation}
use Rattle.chyp_term.proofs.Members.{Contains-member, member-Contains, member-map}
use Rattle.chyp_term.specs.Limits.{IsWithinLimits}
use Rattle.chyp_term.specs.Morphism.{IsTyped, Morphism}
use Rattle.chyp_graph.specs.GraphOf.{graph_of}
use Rattle.chyp_graph.specs.PlainGraph.{PlainGraph}
use Rattle.chyp_graph.proofs.Leaves.{edges-size, wires-size}
use Rattle.chyp_pattern.specs.Pattern.{IsPattern}
use Rattle.chyp_pattern.specs.Replacement.{IsGraphRule}
use Rattle.chyp_simp.specs.Comparing.{EndsFrom}
use Rattle.chyp_simp.specs.Laws.{AreUsable, IsUsable}
use Rattle.chyp_simp.specs.Run as run
use Rattle.chyp_simp.specs.declared.ending.Ending.{Ending}
use Rattle.chyp_simp.proofs.Contexts.{graph-rule}
use Rattle.chyp_simplifier.specs.Rule.{IsRule, IsSmall, graphs_of, most_size}
use Rattle.chyp_simplifier.specs.declared.rule.Rule.{Rule}

-- the graph of a term within the limits is small
pub term-small : (t : Morphism) → IsTyped t → IsWithinLimits t → (g : PlainGraph) → g ≡ graph_of t → IsSmall most_size g
term-small t typed small g e = subst (IsSmall most_size) (sym e) (record {
  edges = let s = small.size in let h = edges-size t in omega arith;
  wires = let s = small.size in let h = wires-size t typed in omega arith;
})

pub is-rule : (rule : Rule) (l r : Morphism) → IsEquation l r → IsWithinLimits r → IsPattern rule.left → rule.left.graph ≡ graph_of l → rule.right ≡ graph_of r → IsRule rule
is-rule rule l r is small pattern p q = record {
  sides = subst (λ (x : PlainGraph). IsGraphRule x rule.right) (sym p) (subst (λ (x : PlainGraph). IsGraphRule (graph_of l) x) (sym q) (graph-rule l r is));
  pattern = pattern;
  small = term-small r is.right small rule.right q;
}

-- each of the equations can be used
pub usable-at : (es : List Equation) → AreUsable (equations_of es) → (k : ℕ) (e : Equation) → k < length es → e ≡ get_or es k e
    → IsUsable (equation_of e)
usable-at es usable k e h is =
    All-contains IsUsable (equations_of es) (equation_of e) usable
    (member-Contains (equations_of es) (equation_of e) (member-map equation_of es e (Contains-member es e (k, h, sym is))))

-- one more equation has its rule
pub next-graphs : (rules next : List Rule) (rule : Rule) → next ≡ rules ++ rule ∷ [] → (es : List Equation) (k : ℕ) (e : Equation) → k < length es → e ≡ get_or es k e
    → map graphs_of rules ≡ run.rules_of (equations_of (take k es)) → graphs_of rule ≡ run.rule_of (equation_of e)
    → map graphs_of next ≡ run.rules_of (equations_of (take (k + 1) es))
next-graphs rules next rule is es k e h at before this =
    let one : suc k ≡ k + 1 = omega arith in
    let more : take (k + 1) es ≡ take k es ++ e ∷ [] = ap (λ (n : ℕ). take n es) (sym one) ∙ take-suc es k e h ∙ ap (λ (x : Equation). take k es ++ x ∷ []) (sym at) in
    ap (map graphs_of) is ∙ map-append graphs_of rules (rule ∷ []) ∙ ap₂ (λ (x : List run.Rule) (y : run.Rule). x ++ y ∷ []) before this
    ∙ sym (map-append run.rule_of (equations_of (take k es)) (equation_of e ∷ []))
    ∙ ap run.rules_of (sym (map-append equation_of (take k es) (e ∷ []))) ∙ ap (λ (x : List Equation). run.rules_of (equations_of x)) (sym more)

pub next-rules : (rules next : List Rule) (rule : Rule) → next ≡ rules ++ rule ∷ [] → All IsRule rules → IsRule rule → All IsRule next
next-rules rules next rule is all one = subst (All IsRule) (sym is) (All-append IsRule rules (rule ∷ []) all (All-cons IsRule rule [] one (All-nil IsRule)))

-- the run of these rules from a term
pub ends-from : (E : List (Morphism × Morphism)) (rules : List run.Rule) → rules ≡ run.rules_of E → (t : Morphism) (a b : Ending) → a ≡ b → run.Ends rules (graph_of t) a
    → EndsFrom E t b
ends-from E rules is t a b e ends = subst (λ (x : List run.Rule). run.Ends x (graph_of t) b) is (subst (run.Ends rules (graph_of t)) e ends)
