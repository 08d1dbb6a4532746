-- Rounds of removal: in each round the edges are taken away all of whose sources are live by then.
use Rattle.std.specs.Prelude.{ℕ, zero, suc, ◌<◌, ◌≡◌, Bool, true, false, List, ◌++◌, length, Some, slice_get}
use Rattle.chyp_graph.specs.PlainGraph.{Edge, PlainGraph, targets_of}
use Rattle.chyp_graph.specs.Validity.{is_ready, taken_within}

-- the edge e is taken away within n rounds
abbrev pub is_taken_within : PlainGraph → Edge → ℕ → Bool
is_taken_within g e zero = false
is_taken_within g e (suc n) = is_ready (g.inputs ++ targets_of (taken_within g n)) e

-- the edge e is taken away in the round r: within r rounds, and within no fewer
pub record IsRound (g : PlainGraph) (e : Edge) (r : ℕ) : Type 0 where
  pub by_then : is_taken_within g e r ≡ true
  pub not_before : (n : ℕ) → n < r → is_taken_within g e n ≡ false

-- a number for each edge: the round in which it is taken away
pub record AreRounds (g : PlainGraph) (rounds : List ℕ) : Type 0 where
  pub size : length rounds ≡ length g.edges
  pub each : (k : ℕ) (e : Edge) (r : ℕ) → slice_get g.edges k ≡ Some e → slice_get rounds k ≡ Some r → IsRound g e r
