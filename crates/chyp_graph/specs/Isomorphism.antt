-- Isomorphism of plain graphs with both interfaces fixed.
use Rattle.std.specs.Prelude.{ℕ, ◌<◌, ◌≡◌, length, map, option_map, slice_get}
use Rattle.chyp_graph.specs.PlainGraph.{PlainGraph, renamed}

-- f and g undo one another between the numbers below m and those below n
pub record IsBijection (m n : ℕ) (f g : ℕ → ℕ) : Type 0 where
  pub there : (i : ℕ) → i < m → f i < n
  pub back : (j : ℕ) → j < n → g j < m
  pub there_back : (j : ℕ) → j < n → f (g j) ≡ j
  pub back_there : (i : ℕ) → i < m → g (f i) ≡ i

-- a bijection of wires and one of edges that keep names, sorts, ports by position, and both interfaces place by place
pub record Isomorphic (g h : PlainGraph) : Type 0 where
  pub wire : ℕ → ℕ
  pub wire_back : ℕ → ℕ
  pub edge : ℕ → ℕ
  pub edge_back : ℕ → ℕ
  pub wires : IsBijection (length g.wires) (length h.wires) wire wire_back
  pub edges : IsBijection (length g.edges) (length h.edges) edge edge_back
  pub sorts : (w : ℕ) → w < length g.wires → slice_get h.wires (wire w) ≡ slice_get g.wires w
  pub ports : (k : ℕ) → k < length g.edges → slice_get h.edges (edge k) ≡ option_map (renamed wire) (slice_get g.edges k)
  pub inputs : h.inputs ≡ map wire g.inputs
  pub outputs : h.outputs ≡ map wire g.outputs
