-- A run has an end.
use Rattle.std.proofs.Common.{[], ℕ, zero, suc, ◌+◌, ◌<◌, ◌≤◌, ◌≡◌, List, ◌∷◌, ◌++◌, length, Some, slice_get, ◌⊎◌, inl, inr, refl, sym, ◌∙◌, ap, subst, arith}
use Rattle.std.specs.Prelude.{Contains}
use Rattle.std.proofs.lemmas.Bool.{cases_eq, cases_lt}
use Rattle.std.proofs.lemmas.List.Elements.{All-contains}
use Rattle.chyp_term.specs.Morphism.{Morphism}
use Rattle.chyp_term.proofs.Members.{Contains-member, Member, get-member, member-Contains, member-get}
use Rattle.chyp_term.proofs.Permuted.{found}
use Rattle.chyp_term.proofs.Positions.{some-same}
use Rattle.chyp_graph.specs.GraphOf.{graph_of}
use Rattle.chyp_graph.specs.PlainGraph.{PlainGraph}
use Rattle.chyp_pattern.specs.Occurrence.{IsOccurrence}
use Rattle.chyp_pattern.specs.Occurrences.{AreOccurrences, IsBefore}
use Rattle.chyp_pattern.specs.Replacement.{replaced}
use Rattle.chyp_pattern.specs.declared.occurrence.Occurrence.{Occurrence}
use Rattle.chyp_pattern.proofs.Lexicographic.{less-anti}
use Rattle.chyp_pattern.proofs.Listed.{are-listed, listed}
use Rattle.chyp_simp.specs.declared.ending.Ending.{Ending}
use Rattle.chyp_simp.specs.declared.ending.Ending.TheVariants.{AtLimit, NormalForm, TooWide}
use Rattle.chyp_simp.specs.Laws.{AreUsable, IsUsable}
use Rattle.chyp_simp.specs.Run.{AreIdle, Ends, HavePlacements, IsIdle, IsLeast, IsWide, Rewrites, RewritesIn, Rule, most_placements, most_rewrites, rules_of}
use Rattle.chyp_simp.specs.Run.{limit, none, normal, one_more, stops, wide}
use Rattle.chyp_simp.proofs.Contexts.{IsRuleOf, is-rule-of}
use Rattle.chyp_simp.proofs.Placements.{some-placements}

-- ---- occurrences

-- the first of all occurrences in order is the least
pub first-least : (l g : PlainGraph) (os : List Occurrence) (at : Occurrence) → AreOccurrences l g os → slice_get os 0 ≡ Some at → IsLeast l g at
first-least l g os at are e = record {
  occurs = (are.members at).0 (member-Contains os at (get-member os 0 at e));
  least = λ o is before.
      let i = member-get os o (Contains-member os o ((are.members o).1 is)) in
      go o before i.0 i.1 (cases_eq i.0 0);
}
  where
    go : (o : Occurrence) → IsBefore o at → (i : ℕ) → slice_get os i ≡ Some o → (i ≡ 0) ⊎ (i ≡ 0 → ⊥) → ⊥
    go o before i h (inl z) =
        let same : o ≡ at = some-same o at (sym h ∙ ap (slice_get os) z ∙ e) in
        let itself : IsBefore at at = subst (λ (x : Occurrence). IsBefore x at) same before in
        less-anti (at.edges ++ at.wires) (at.edges ++ at.wires) itself itself
    go o before i h (inr n) = less-anti (o.edges ++ o.wires) (at.edges ++ at.wires) before (are.ordered 0 i at o (omega arith) e h)

-- where there is none in the list, there is none
pub none-occurs : (l g : PlainGraph) (os : List Occurrence) → AreOccurrences l g os → length os ≡ 0 → (at : Occurrence) → ¬ IsOccurrence l g at.edges at.wires
none-occurs l g os are e at is = let c = (are.members at).1 is in let h = c.1 in omega arith

some-least : (l g : PlainGraph) → ((at : Occurrence) × IsLeast l g at) ⊎ ((at : Occurrence) → ¬ IsOccurrence l g at.edges at.wires)
some-least l g = go (listed l g) (are-listed l g)
  where
    go : (os : List Occurrence) → AreOccurrences l g os → ((at : Occurrence) × IsLeast l g at) ⊎ ((at : Occurrence) → ¬ IsOccurrence l g at.edges at.wires)
    go [] are = inr (none-occurs l g [] are refl)
    go (o ∷ os) are = inl (o, first-least l g (o ∷ os) o are refl)

-- ---- one rewrite

-- what rules do to a graph
pub data Does (rules : List Rule) (g : PlainGraph) : Type 0 where
  nothing : AreIdle rules g (length rules) → Does rules g
  too_wide : (n : ℕ) → IsWide rules g n → Does rules g
  rewrites : (h : PlainGraph) → Rewrites rules g h → Does rules g

-- one more rule is idle
pub idle-more : (rules : List Rule) (g : PlainGraph) (k : ℕ) (rule : Rule) → slice_get rules k ≡ Some rule → AreIdle rules g k → IsIdle rule.0 g
    → AreIdle rules g (k + 1)
idle-more rules g k rule is front idle j other h e = go (cases_lt j k)
  where
    go : (j < k) ⊎ (k ≤ j) → IsIdle other.0 g
    go (inl l) = front j other l e
    go (inr l) =
        let at : j ≡ k = omega arith in
        let same : rule ≡ other = some-same rule other (sym is ∙ ap (slice_get rules) (sym at) ∙ e) in
        subst (λ (x : Rule). IsIdle x.0 g) same idle

module _ (rules : List Rule) (have : (rule : Rule) (g : PlainGraph) → Contains rules rule → (n : ℕ) × HavePlacements rule.0 g n) where
  look : (g : PlainGraph) (left k : ℕ) → k + left ≡ length rules → AreIdle rules g k → Does rules g
  look g zero k e idle = let all : k ≡ length rules = omega arith in nothing (subst (AreIdle rules g) all idle)
  look g (suc left) k e idle =
      let f = found rules k (omega arith) in
      go f.0 f.1 (have f.0 g (member-Contains rules f.0 (get-member rules k f.0 f.1))) (λ next. look g left (k + 1) (omega arith) next)
    where
      go : (rule : Rule) → slice_get rules k ≡ Some rule → (n : ℕ) × HavePlacements rule.0 g n → (AreIdle rules g (k + 1) → Does rules g) → Does rules g
      go rule is (n, are) rest = within (cases_lt most_placements n) (some-least rule.0 g)
        where
          within : (most_placements < n) ⊎ (n ≤ most_placements) → ((at : Occurrence) × IsLeast rule.0 g at) ⊎ ((at : Occurrence) → ¬ IsOccurrence rule.0 g at.edges at.wires)
              → Does rules g
          within (inl many) s = too_wide n (record { rule = rule; reached = record { k = k; is = is; front = idle }; are = are; many = many })
          within (inr few) (inl (at, least)) =
              rewrites (replaced g rule.0 rule.1 at.edges at.wires)
              (record { rule = rule; reached = record { k = k; is = is; front = idle }; placements = n; are = are; few = few; at = at; least = least; is = refl })
          within (inr few) (inr nowhere) = rest (idle-more rules g k rule is idle (record { placements = n; are = are; few = few; none = nowhere }))

  -- ---- a run

  look-all : (g : PlainGraph) → Does rules g
  look-all g = look g (length rules) 0 (omega arith) (λ j rule l is. absurd (omega arith))

  run : (g : PlainGraph) (left n : ℕ) (h : PlainGraph) → n + left ≡ most_rewrites → RewritesIn rules g n h → (ending : Ending) × Ends rules g ending
  run g zero n h e before = go (look-all h)
    where
      at : n ≡ most_rewrites
      at = omega arith

      go : Does rules h → (ending : Ending) × Ends rules g ending
      go (nothing idle) = (NormalForm h, stops (omega arith) before (normal idle))
      go (too_wide m w) = (TooWide m, stops (omega arith) before (wide w))
      go (rewrites k w) = (AtLimit, limit (subst (λ m. RewritesIn rules g m h) at before) w)
  run g (suc left) n h e before = go (look-all h) (λ k w. run g left (suc n) k (omega arith) (one_more before w))
    where
      go : Does rules h → ((k : PlainGraph) → Rewrites rules h k → (ending : Ending) × Ends rules g ending) → (ending : Ending) × Ends rules g ending
      go (nothing idle) rest = (NormalForm h, stops (omega arith) before (normal idle))
      go (too_wide m w) rest = (TooWide m, stops (omega arith) before (wide w))
      go (rewrites k w) rest = rest k w

  pub some-end : (g : PlainGraph) → (ending : Ending) × Ends rules g ending
  some-end g = run g most_rewrites 0 g (omega arith) none

-- the left sides of equations within the limits have a number of placements
pub have-placements : (equations : List (Morphism × Morphism)) → AreUsable equations → (rule : Rule) (g : PlainGraph) → Contains (rules_of equations) rule
    → (n : ℕ) × HavePlacements rule.0 g n
have-placements equations usable rule g c =
    let k = member-get (rules_of equations) rule (Contains-member (rules_of equations) rule c) in
    go (is-rule-of equations k.0 rule k.1)
  where
    go : IsRuleOf equations rule → (n : ℕ) × HavePlacements rule.0 g n
    go of =
        let e = of.equation in
        let is = All-contains IsUsable equations e usable of.has in
        subst (λ (x : Rule). (n : ℕ) × HavePlacements x.0 g n) of.is (some-placements e.0 is.0.left is.1 g)
