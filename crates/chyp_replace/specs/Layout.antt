-- The wires of a graph with an occurrence replaced. No public clause cites this.
use Rattle.std.specs.Prelude.{◌≡◌, ℕ, List, ◌++◌, length, map, slice_index}
use Rattle.chyp_term.specs.Perm.{count_from, permuted}
use Rattle.chyp_graph.specs.PlainGraph.{PlainGraph}
use Rattle.chyp_pattern.specs.Replacement.{kept_wires}
use Rattle.chyp_replace.specs.declared.layout.Layout.{Layout}
use Rattle.chyp_replace.specs.Numbers.{AreRebound, kept_before}

-- the wires of g that are no image and then those of r, with their numbers
pub record IsLayout (g r : PlainGraph) (images : List ℕ) (layout : Layout) : Type 0 where
  pub wires : layout.wires.items ≡ permuted g.wires (kept_wires g images) ++ r.wires
  pub kept : layout.kept.items ≡ map (kept_before images) (count_from 0 (length g.wires))
  pub moved : layout.moved.items ≡ count_from (length (kept_wires g images)) (length r.wires)

-- a table of numbers of the wires of g, where the image of each of the wires `inner` stands for the wire of r at its place
-- in `ends`
abbrev pub AreBound : Layout → List ℕ → List ℕ → List ℕ → List ℕ → Type 0
AreBound layout images inner ends table =
    AreRebound (map (slice_index images) inner) (map (slice_index layout.moved.items) ends) layout.kept.items table
