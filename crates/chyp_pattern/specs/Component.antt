-- The connected components of a plain graph (Berge, Graphs and Hypergraphs): edges hang together where they share wires,
-- and a wire that is a port of no edge is a component of its own.
use Rattle.std.specs.Prelude.{ℕ, ◌<◌, ◌≤◌, ◌≡◌, true, List, ◌++◌, map, length, Some, slice_get, Contains, ◌↔◌}
use Rattle.chyp_term.specs.Positions.{is_apart}
use Rattle.chyp_graph.specs.PlainGraph.{Edge, PlainGraph, sources_of, targets_of}
use Rattle.chyp_pattern.specs.declared.anchor.Anchor.{Anchor}
use Rattle.chyp_pattern.specs.declared.anchor.Anchor.TheVariants.{Edge as AtEdge, Wire as AtWire}

-- the wire w is a port of the edge k
pub record IsPortOf (g : PlainGraph) (k w : ℕ) : Type 0 where
  pub edge : Edge
  pub is : slice_get g.edges k ≡ Some edge
  pub has : Contains (edge.sources ++ edge.targets) w

-- a chain of edges, each of which shares a wire with the one before it, leads from the edge j to the edge k
pub data AreJoined (g : PlainGraph) (j : ℕ) : ℕ → Type 0 where
  same : AreJoined g j j
  next : {k l : ℕ} → AreJoined g j k → {w : ℕ} → IsPortOf g k w → IsPortOf g l w → AreJoined g j l

-- the edge is the first of its component
pub record IsFirstEdge (g : PlainGraph) (k : ℕ) : Type 0 where
  pub there : k < length g.edges
  pub first : (l : ℕ) → AreJoined g k l → k ≤ l

-- the wire is a port of no edge
pub record IsBare (g : PlainGraph) (w : ℕ) : Type 0 where
  pub there : w < length g.wires
  pub unmade : is_apart (targets_of g.edges) w ≡ true
  pub unused : is_apart (sources_of g.edges) w ≡ true

-- each number is less than those behind it
abbrev pub IsIncreasing : List ℕ → Type 0
IsIncreasing ns = (i j m n : ℕ) → i < j → slice_get ns i ≡ Some m → slice_get ns j ≡ Some n → m < n

-- the numbers for which this holds, each once, in order
pub record AreThose (P : ℕ → Type 0) (ns : List ℕ) : Type 0 where
  pub increasing : IsIncreasing ns
  pub members : (n : ℕ) → Contains ns n ↔ P n

-- one anchor for each component: its first edge, in the order of these, and then the bare wires in their order
pub record AreAnchors (g : PlainGraph) (anchors : List Anchor) : Type 0 where
  pub edges : List ℕ
  pub wires : List ℕ
  pub is : anchors ≡ map AtEdge edges ++ map AtWire wires
  pub first_edges : AreThose (IsFirstEdge g) edges
  pub bare_wires : AreThose (IsBare g) wires
