-- The n-th rewrite of a term by a rule.
use Rattle.std.specs.Prelude.{◌≡◌, ℕ, ◌+◌, ◌<◌, ◌≤◌, ◌^◌, List, Some, length, slice_get}
use Rattle.chyp_term.specs.Limits.{IsWithinLimits}
use Rattle.chyp_term.specs.Morphism.{Morphism}
use Rattle.chyp_term.specs.Term.{morphism_of}
use Rattle.chyp_term.specs.declared.term.Term.{Term}
use Rattle.chyp_graph.specs.GraphOf.{graph_of}
use Rattle.chyp_graph.specs.PlainGraph.{PlainGraph}
use Rattle.chyp_extract.specs.Extraction.{extracted}
use Rattle.chyp_pattern.specs.Occurrences.{AreOccurrences}
use Rattle.chyp_pattern.specs.Replacement.{IsGraphRule, replaced}
use Rattle.chyp_pattern.specs.declared.occurrence.Occurrence.{Occurrence}
use Rattle.chyp_judge.specs.Judged.{HavePlacements}
use Rattle.chyp_simp.specs.Run.{most_placements}
use Rattle.chyp_nth.specs.declared.nth.Nth.{Nth}
use Rattle.chyp_nth.specs.declared.nth.Nth.TheVariants.{NoSuch, Rewritten, TooBig, TooWide}
use Rattle.chyp_nth.specs.declared.redex.Redex.{Redex}

-- the term that is read back from the graph, or that it is too big
pub data IsReadBack (g : PlainGraph) : Nth → Type 0 where
  big : ¬ IsWithinLimits (extracted g) → IsReadBack g TooBig
  small : {term : Term} → IsWithinLimits (extracted g) → morphism_of term ≡ extracted g → IsReadBack g (Rewritten term)

-- the n-th occurrence of l in g replaced by r and read back, or how many there are
pub data IsNthReplaced (l r g : PlainGraph) (n : ℕ) : Nth → Type 0 where
  absent : (os : List Occurrence) → AreOccurrences l g os → length os ≤ n → IsNthReplaced l r g n (NoSuch (length os))
  there : {answer : Nth} (os : List Occurrence) (o : Occurrence) → AreOccurrences l g os → slice_get os n ≡ Some o
      → IsReadBack (replaced g l r o.edges o.wires) answer → IsNthReplaced l r g n answer

-- The n-th rewrite of t by a rule: too wide where its left side has too many placements in t, and else by the graphs.
pub data IsNth (rule : Morphism × Morphism) (t : Morphism) (n : ℕ) : Nth → Type 0 where
  wide : {placements : ℕ} → HavePlacements rule.0 t placements → most_placements < placements → IsNth rule t n (TooWide placements)
  narrow : {placements : ℕ} {answer : Nth} → HavePlacements rule.0 t placements → placements ≤ most_placements
      → IsNthReplaced (graph_of rule.0) (graph_of rule.1) (graph_of t) n answer → IsNth rule t n answer

-- two sides of one type, which can be put into the graph, and occurrences that can be counted
pub record IsRedex (s : Redex) : Type 0 where
  pub rule : IsGraphRule s.left.graph s.right
  pub few_edges : length s.graph.edges + length s.right.edges < 2 ^ 31
  pub few_wires : length s.graph.wires + length s.right.wires < 2 ^ 31
  pub few : (os : List Occurrence) → AreOccurrences s.left.graph s.graph os → length os < 2 ^ 64

-- the n-th rewrite of the graph
abbrev pub IsNthOf : Redex → ℕ → Nth → Type 0
IsNthOf s n answer = IsNthReplaced s.left.graph s.right s.graph n answer
