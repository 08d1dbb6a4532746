-- Isomorphisms given by the lists of the images of the edges and of the wires: isomorphism of cospans of hypergraphs with
-- their interfaces fixed (Bonchi, Gadducci, Kissinger, Sobociński and Zanasi, String Diagram Rewrite Theory II).
use Rattle.std.specs.Prelude.{ℕ, ◌<◌, ◌≡◌, List, length, map, option_map, slice_get, slice_index}
use Rattle.chyp_term.specs.Perm.{IsPermutation}
use Rattle.chyp_graph.specs.PlainGraph.{PlainGraph, renamed}

-- the edge k of g goes to the edge at k in the one list and the wire w to the wire at w in the other: both are bijections
-- that keep sorts, names, ports by position, and both interfaces place by place
pub record IsIsomorphism (g h : PlainGraph) (edges wires : List ℕ) : Type 0 where
  pub edge_count : length h.edges ≡ length g.edges
  pub wire_count : length h.wires ≡ length g.wires
  pub edge_map : IsPermutation (length g.edges) edges
  pub wire_map : IsPermutation (length g.wires) wires
  pub sorts : (w : ℕ) → w < length g.wires → slice_get h.wires (slice_index wires w) ≡ slice_get g.wires w
  pub ports : (k : ℕ) → k < length g.edges → slice_get h.edges (slice_index edges k)
      ≡ option_map (renamed (slice_index wires)) (slice_get g.edges k)
  pub inputs : h.inputs ≡ map (slice_index wires) g.inputs
  pub outputs : h.outputs ≡ map (slice_index wires) g.outputs
