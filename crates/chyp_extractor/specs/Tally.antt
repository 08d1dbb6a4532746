-- What stands before each round of measuring. No public clause cites this.
use Rattle.std.specs.Prelude.{ℕ, ◌-◌, ◌<◌, ◌≤◌, ◌≡◌, Bool, true, false, not, ◌&&◌, eqb, All, List, [], ◌∷◌, ◌++◌, Option, filter, length, reverse, slice_get}
use Rattle.chyp_graph.specs.PlainGraph.{PlainGraph}
use Rattle.chyp_extract.specs.Measuring.{Measures, of_crossing, of_layer}
use Rattle.chyp_extract.specs.Placing.{placed_after}
use Rattle.chyp_extractor.specs.Fronts.{is_used_within, live_at, others_at, wanted_at}
use Rattle.chyp_extractor.specs.declared.tally.Tally.{Tally}

-- the wires of a stack that aren't used within n rounds, from the top down
abbrev pub unused_in : PlainGraph → ℕ → List ℕ → List ℕ
unused_in g n stack = filter (λ w. not (is_used_within g n w)) (reverse stack)

-- the wire at the top of a stack
abbrev pub first_of : List ℕ → Option ℕ
first_of stack = slice_get stack (length stack - 1)

-- all are wires of the graph
abbrev pub AreWires : PlainGraph → List ℕ → Type 0
AreWires g stack = All (λ w. w < length g.wires) stack

-- no wire is lost but those that are used within n rounds, and some given ones, once they are used
abbrev pub KeepsUnused : PlainGraph → ℕ → List ℕ → List ℕ → List ℕ → Type 0
KeepsUnused g n given before after = (m : ℕ) → n ≤ m → All (λ w. is_used_within g m w ≡ true) given
    → unused_in g m after ≡ unused_in g m before

-- the list begins with these numbers
abbrev pub begins : List ℕ → List ℕ → Bool
begins [] live = true
begins (w ∷ wanted) [] = false
begins (w ∷ wanted) (v ∷ live) = eqb v w && begins wanted live

-- the measures of the parts that the round after n rounds gives
abbrev pub measures_at : PlainGraph → ℕ → List Measures
measures_at g n = of_crossing (live_at g n) (wanted_at g n) ++ of_layer (placed_after g n) (others_at g n) ∷ []

-- what is kept after n rounds
pub record IsTally (g : PlainGraph) (n : ℕ) (tally : Tally) : Type 0 where
  pub wires : AreWires g tally.stack.items
  pub unused : unused_in g n tally.stack.items ≡ live_at g n
  pub live : tally.live ≡ length (live_at g n)
