-- Convex occurrences of a plain graph in another (Bonchi, Gadducci, Kissinger, Sobociński and Zanasi, String Diagram
-- Rewrite Theory II: convex matches).
use Rattle.std.specs.Prelude.{ℕ, ◌<◌, ◌≡◌, true, List, length, option_map, Some, slice_get, slice_index, Contains}
use Rattle.chyp_term.specs.Positions.{is_apart}
use Rattle.chyp_graph.specs.PlainGraph.{Edge, PlainGraph, renamed}

-- a chain of edges of g, all outside the image, leads from an image wire to the edge k: its first edge takes an image
-- wire, each edge takes a target of the one before it, and the last one is k
pub data IsReached (g : PlainGraph) (es ws : List ℕ) : ℕ → Type 0 where
  first : {k : ℕ} {e : Edge} → slice_get g.edges k ≡ Some e → is_apart es k ≡ true
      → {w : ℕ} → Contains ws w → Contains e.sources w → IsReached g es ws k
  next : {j k : ℕ} {d e : Edge} → IsReached g es ws j → slice_get g.edges j ≡ Some d → slice_get g.edges k ≡ Some e → is_apart es k ≡ true
      → {w : ℕ} → Contains d.targets w → Contains e.sources w → IsReached g es ws k

-- es are the images of the edges of l and ws those of its wires: a convex occurrence of l in g
pub record IsOccurrence (l g : PlainGraph) (es ws : List ℕ) : Type 0 where
  pub edge_count : length es ≡ length l.edges
  pub wire_count : length ws ≡ length l.wires
  -- no two edges have one image, and no two wires
  pub edges_apart : (i j : ℕ) → i < length es → j < length es → slice_index es i ≡ slice_index es j → i ≡ j
  pub wires_apart : (i j : ℕ) → i < length ws → j < length ws → slice_index ws i ≡ slice_index ws j → i ≡ j
  -- sorts are kept, names, and ports by position
  pub sorts : (v : ℕ) → v < length l.wires → slice_get g.wires (slice_index ws v) ≡ slice_get l.wires v
  pub ports : (k : ℕ) → k < length l.edges → slice_get g.edges (slice_index es k)
      ≡ option_map (renamed (slice_index ws)) (slice_get l.edges k)
  -- convex: no chain of edges outside the image leads from an image wire to an image wire
  pub convex : (k : ℕ) (e : Edge) (w : ℕ) → IsReached g es ws k → slice_get g.edges k ≡ Some e → Contains e.targets w → is_apart ws w ≡ true
