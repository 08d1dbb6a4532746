-- How the search for the n-th occurrence goes.
use Rattle.std.proofs.Common.{ℕ, ◌≤◌, ◌≡◌, List, length, Some, slice_get, refl, sym, ◌∙◌, ap, subst, arith}
use Rattle.chyp_term.specs.Derivation.{IsEquation}
use Rattle.chyp_term.specs.Measure.{size_of}
use Rattle.chyp_term.specs.Morphism.{IsTyped, Morphism}
use Rattle.chyp_term.proofs.Members.{get-member, member-Contains}
use Rattle.chyp_graph.specs.GraphOf.{graph_of}
use Rattle.chyp_graph.specs.PlainGraph.{PlainGraph}
use Rattle.chyp_match.specs.Matcher.{GivesNext, Matcher}
use Rattle.chyp_pattern.specs.Occurrence.{IsOccurrence}
use Rattle.chyp_pattern.specs.Occurrences.{AreOccurrences}
use Rattle.chyp_match.specs.Occurring.{OccurrencesAreBounded}
use Rattle.chyp_pattern.specs.Pattern.{IsPattern, Parts}
use Rattle.chyp_pattern.specs.Placements.{ArePlacements}
use Rattle.chyp_pattern.specs.Replacement.{replaced}
use Rattle.chyp_pattern.specs.declared.occurrence.Occurrence.{Occurrence}
use Rattle.chyp_pattern.proofs.Listed.{are-listed, listed}
use Rattle.chyp_judge.specs.Rewrite.{AreAll, IsBegun, IsGiven}
use Rattle.chyp_judge.proofs.Tried.{is-rewrite}
use Rattle.chyp_nth.specs.Nth.{IsNthOf, IsNthReplaced, IsReadBack, IsRedex, absent, there}
use Rattle.chyp_nth.specs.declared.nth.Nth.{Nth}
use Rattle.chyp_nth.specs.declared.nth.Nth.TheVariants.{NoSuch}
use Rattle.chyp_nth.specs.declared.redex.Redex.{Redex}

-- a search for the occurrences of the left side
abbrev start : Redex → PlainGraph → Matcher
start s g = record { pattern = s.left; graph = g; given = 0 }

pub begun : (s : Redex) → IsRedex s → (b : Matcher) (g : PlainGraph) → g ≡ s.graph → b ≡ start s g → IsBegun b
begun s is b g q e = subst IsBegun (sym (e ∙ ap (start s) q)) (record { none = refl; few = is.few })

module _ (s : Redex) (b : Matcher) (pattern : b.pattern ≡ s.left) (graph : b.graph ≡ s.graph) where
  back : (os : List Occurrence) → AreOccurrences s.left.graph s.graph os → AreOccurrences b.pattern.graph b.graph os
  back os a =
      subst (λ (l : Parts). AreOccurrences l.graph b.graph os) (sym pattern)
      (subst (λ (x : PlainGraph). AreOccurrences s.left.graph x os) (sym graph) a)

  -- where k are all and n is no fewer, there is no n-th
  pub too-few : (k n : ℕ) → AreAll b k → k ≤ n → IsNthOf s n (NoSuch k)
  too-few k n all h =
      let os = listed s.left.graph s.graph in
      let a = are-listed s.left.graph s.graph in
      let size : length os ≡ k = all os (back os a) in
      subst (λ i. IsNthReplaced s.left.graph s.right s.graph n (NoSuch i)) size (absent os a (omega arith))

  module _ (n : ℕ) (m : Matcher) (given : IsGiven b n m) (o : Occurrence) (next : GivesNext m o) where
    nth : (os : List Occurrence) → AreOccurrences s.left.graph s.graph os → slice_get os n ≡ Some o
    nth os a =
        let c = back os a in
        subst (λ (k : ℕ). slice_get os k ≡ Some o) given.given
        (next os
        (subst (λ (l : Parts). AreOccurrences l.graph m.graph os) (sym given.pattern)
        (subst (λ (x : PlainGraph). AreOccurrences b.pattern.graph x os) (sym given.graph) c)))

    -- what is given is an occurrence
    pub nth-occurs : IsOccurrence s.left.graph s.graph o.edges o.wires
    nth-occurs =
        let os = listed s.left.graph s.graph in
        let a = are-listed s.left.graph s.graph in
        (a.members o).0 (member-Contains os o (get-member os n o (nth os a)))

    -- and what is read back behind it is the n-th rewrite
    pub nth-replaced : (answer : Nth) (h : PlainGraph) → h ≡ replaced s.graph s.left.graph s.right o.edges o.wires → IsReadBack h answer → IsNthOf s n answer
    nth-replaced answer h is back =
        let os = listed s.left.graph s.graph in
        let a = are-listed s.left.graph s.graph in
        there os o a (nth os a) (subst (λ x. IsReadBack x answer) is back)

-- terms within the limits, with few placements, can be rewritten
pub is-redex : OccurrencesAreBounded → (s : Redex) (l r t : Morphism) → IsEquation l r → IsTyped t → size_of t ≤ 200000 → size_of r ≤ 200000 → IsPattern s.left
    → s.graph ≡ graph_of t → s.left.graph ≡ graph_of l → s.right ≡ graph_of r → (n : ℕ) → ArePlacements s.left s.graph n → n ≤ 65536 → IsRedex s
is-redex bounded s l r t e ty small_t small_r pattern p q o n placements few =
    let w = is-rewrite bounded (record { from = s.graph; left = s.left; right = s.right; to = s.graph }) l r t e ty small_t small_r pattern p q o n placements few in
    record { rule = w.rule; few_edges = w.few_edges; few_wires = w.few_wires; few = w.few }

-- the graphs of the terms decide
pub nth-by_graphs : (s : Redex) (l r t : Morphism) → s.graph ≡ graph_of t → s.left.graph ≡ graph_of l → s.right ≡ graph_of r → (n : ℕ) (answer : Nth) → IsNthOf s n answer
    → IsNthReplaced (graph_of l) (graph_of r) (graph_of t) n answer
nth-by_graphs s l r t p q o n answer h =
    subst (λ x. IsNthReplaced (graph_of l) (graph_of r) x n answer) p
    (subst (λ x. IsNthReplaced (graph_of l) x s.graph n answer) o (subst (λ x. IsNthReplaced x s.right s.graph n answer) q h))
