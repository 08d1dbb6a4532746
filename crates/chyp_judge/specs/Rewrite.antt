-- Rewriting one graph to another by a rule, at one of its occurrences. No public clause cites this.
use Rattle.std.specs.Prelude.{◌≡◌, ℕ, ◌+◌, ◌<◌, ◌≤◌, ◌^◌, List, Contains, Some, length, slice_get}
use Rattle.chyp_graph.specs.Isomorphism.{Isomorphic}
use Rattle.chyp_match.specs.Matcher.{Matcher}
use Rattle.chyp_pattern.specs.Occurrence.{IsOccurrence}
use Rattle.chyp_pattern.specs.Occurrences.{AreOccurrences}
use Rattle.chyp_pattern.specs.Replacement.{IsGraphRule, replaced}
use Rattle.chyp_pattern.specs.declared.occurrence.Occurrence.{Occurrence}
use Rattle.chyp_judge.specs.declared.judged.Judged.{Judged}
use Rattle.chyp_judge.specs.declared.judged.Judged.TheVariants.{Good, NoRewrite}
use Rattle.chyp_judge.specs.declared.rewrite.Rewrite.{Rewrite}

-- the occurrences of the left side in the graph that is rewritten
abbrev pub AreOf : Rewrite → List Occurrence → Type 0
AreOf s os = AreOccurrences s.left.graph s.from os

-- two sides of one type, which can be put into the graph, and occurrences that can be counted
pub record IsRewrite (s : Rewrite) : Type 0 where
  pub rule : IsGraphRule s.left.graph s.right
  pub few_edges : length s.from.edges + length s.right.edges < 2 ^ 31
  pub few_wires : length s.from.wires + length s.right.wires < 2 ^ 31
  pub few : (os : List Occurrence) → AreOf s os → length os < 2 ^ 64

-- the graph with the occurrence replaced is the one that is to come out
abbrev pub Reaches : Rewrite → Occurrence → Type 0
Reaches s o = Isomorphic s.to (replaced s.from s.left.graph s.right o.edges o.wires)

-- the one that is to come out has as many edges and wires as the graph has with an occurrence replaced
pub record HaveSizes (s : Rewrite) : Type 0 where
  pub edges : length s.from.edges + length s.right.edges ≡ length s.to.edges + length s.left.graph.edges
  pub wires : length s.from.wires + length s.right.wires ≡ length s.to.wires + length s.left.graph.wires

-- good where an occurrence reaches the graph that is to come out, and where none does, with their number
pub data IsTried (s : Rewrite) : Judged → Type 0 where
  reached : (o : Occurrence) → IsOccurrence s.left.graph s.from o.edges o.wires → Reaches s o → IsTried s Good
  missed : {k : ℕ} (os : List Occurrence) → AreOf s os → length os ≡ k → ((o : Occurrence) → Contains os o → Reaches s o → ⊥)
      → IsTried s (NoRewrite k)

-- a search that has given nothing, for occurrences that can be counted
pub record IsBegun (m : Matcher) : Type 0 where
  pub none : m.given ≡ 0
  pub few : (os : List Occurrence) → AreOccurrences m.pattern.graph m.graph os → length os < 2 ^ 64

-- so many occurrences are all
abbrev pub AreAll : Matcher → ℕ → Type 0
AreAll m n = (os : List Occurrence) → AreOccurrences m.pattern.graph m.graph os → length os ≡ n

-- a search that began as m has given so many occurrences, and is now n
pub record IsGiven (m : Matcher) (number : ℕ) (n : Matcher) : Type 0 where
  pub pattern : n.pattern ≡ m.pattern
  pub graph : n.graph ≡ m.graph
  pub given : n.given ≡ number
  pub within : (os : List Occurrence) → AreOccurrences m.pattern.graph m.graph os → number ≤ length os

-- none of the first n occurrences reaches the graph that is to come out
abbrev pub NoneReaches : Rewrite → ℕ → Type 0
NoneReaches s n = (os : List Occurrence) (i : ℕ) (o : Occurrence) → AreOf s os → i < n → slice_get os i ≡ Some o → Reaches s o → ⊥
