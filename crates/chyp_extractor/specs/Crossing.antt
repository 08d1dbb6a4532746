-- Wires that are put in another order. No public clause cites this.
use Rattle.std.specs.Prelude.{ℕ, ◌<◌, ◌^◌, ◌≡◌, true, All, List, length, slice_index}
use Rattle.chyp_term.specs.Perm.{IsPermutation}
use Rattle.chyp_term.specs.Positions.{is_among}
use Rattle.chyp_graph.specs.Joining.{AreApart}
use Rattle.chyp_graph.specs.PlainGraph.{PlainGraph}
use Rattle.chyp_extract.specs.Extraction.{places_in}

-- the table has at each of the wires its place among them
abbrev pub ArePlaced : List ℕ → List ℕ → Type 0
ArePlaced live table = (i : ℕ) → i < length live → slice_index table (slice_index live i) ≡ i

-- live wires of a graph, no two of them equal, which are all wanted in some order
pub record IsReordered (g : PlainGraph) (live wanted : List ℕ) : Type 0 where
  pub within : All (λ w. w < length g.wires) live
  pub apart : AreApart live
  pub few : length live < 2 ^ 31
  pub there : All (λ w. is_among live w ≡ true) wanted
  pub inside : All (λ w. w < length g.wires) wanted
  pub places : IsPermutation (length live) (places_in live wanted)
