-- What stands before each round of extraction. No public clause cites this.
use Rattle.std.specs.Prelude.{ℕ, zero, suc, ◌≡◌, Bool, List, [], ◌∷◌, ◌++◌, length}
use Rattle.chyp_term.specs.Morphism.{Morphism}
use Rattle.chyp_term.specs.Positions.{is_among}
use Rattle.chyp_graph.specs.PlainGraph.{PlainGraph, sources_of, targets_of}
use Rattle.chyp_graph.specs.Validity.{taken_within}
use Rattle.chyp_extract.specs.Extraction.{crossing, layer, passed_by}
use Rattle.chyp_extract.specs.Placing.{placed_after}
use Rattle.chyp_extractor.specs.declared.front.Front.{Front}

-- the live wires after n rounds
abbrev pub live_at : PlainGraph → ℕ → List ℕ
live_at g zero = g.inputs
live_at g (suc n) = targets_of (placed_after g n) ++ passed_by (placed_after g n) (live_at g n)

-- those of them that the next round passes by
abbrev pub others_at : PlainGraph → ℕ → List ℕ
others_at g n = passed_by (placed_after g n) (live_at g n)

-- the order in which that round wants them
abbrev pub wanted_at : PlainGraph → ℕ → List ℕ
wanted_at g n = sources_of (placed_after g n) ++ others_at g n

-- the parts that it gives
abbrev pub parts_at : PlainGraph → ℕ → List Morphism
parts_at g n = crossing g (live_at g n) (wanted_at g n) ++ layer g (placed_after g n) (others_at g n) ∷ []

-- w is a source of an edge that is taken away within n rounds
abbrev pub is_used_within : PlainGraph → ℕ → ℕ → Bool
is_used_within g n w = is_among (sources_of (taken_within g n)) w

-- what is kept after n rounds, with a table of places
pub record IsFront (g : PlainGraph) (n : ℕ) (front : Front) : Type 0 where
  pub live : front.live.items ≡ live_at g n
  pub places : length front.places.items ≡ length g.wires
