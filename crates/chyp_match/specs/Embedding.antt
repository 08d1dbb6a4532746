-- Embeddings of plain graphs.
use Rattle.std.specs.Prelude.{ℕ, ◌<◌, ◌≡◌, length, option_map, slice_get}
use Rattle.chyp_graph.specs.PlainGraph.{PlainGraph, renamed}

-- a map of edges and one of wires, no two to one, that keep names, sorts, and ports by position
pub record Embedding (l g : PlainGraph) : Type 0 where
  pub edge : ℕ → ℕ
  pub wire : ℕ → ℕ
  pub edges_apart : (j k : ℕ) → j < length l.edges → k < length l.edges → edge j ≡ edge k → j ≡ k
  pub wires_apart : (v w : ℕ) → v < length l.wires → w < length l.wires → wire v ≡ wire w → v ≡ w
  pub sorts : (v : ℕ) → v < length l.wires → slice_get g.wires (wire v) ≡ slice_get l.wires v
  pub ports : (k : ℕ) → k < length l.edges → slice_get g.edges (edge k) ≡ option_map (renamed wire) (slice_get l.edges k)
