-- How many placements a pattern has in a graph.
use Rattle.std.specs.Prelude.{ℕ, ◌+◌, ◌*◌, ◌-◌, ◌^◌, ◌<◌, ◌≡◌, min, List, [], ◌∷◌, length, Some, slice_get}
use Rattle.chyp_base.specs.declared.sort.Sort.{Sort}
use Rattle.chyp_pattern.specs.Component.{AreThose}
use Rattle.chyp_pattern.specs.Pattern.{Parts}
use Rattle.chyp_graph.specs.PlainGraph.{PlainGraph}
use Rattle.chyp_pattern.specs.declared.anchor.Anchor.{Anchor}
use Rattle.chyp_pattern.specs.declared.anchor.Anchor.TheVariants.{Edge, Wire}
use Rattle.chyp_graph.specs.declared.edge_part.EdgePart.{EdgePart}

-- the edge k has this name
pub record IsNamed (g : PlainGraph) (name : List ℕ) (k : ℕ) : Type 0 where
  pub edge : EdgePart
  pub is : slice_get g.edges k ≡ Some edge
  pub named : edge.name ≡ name

-- the wire w has this sort
abbrev pub IsOfSort : PlainGraph → Sort → ℕ → Type 0
IsOfSort g sort w = slice_get g.wires w ≡ Some sort

-- so many numbers have the property
abbrev pub IsCount : (ℕ → Type 0) → ℕ → Type 0
IsCount P n = (ns : List ℕ) × AreThose P ns × (length ns ≡ n)

-- the anchor is an edge of the graph, or one of its wires
abbrev pub IsThere : PlainGraph → Anchor → Type 0
IsThere g (Edge k) = k < length g.edges
IsThere g (Wire w) = w < length g.wires

-- a component of l that begins with the anchor may begin in g with the edge j of the same name, or with the wire j of the
-- same sort
abbrev pub MayBegin : PlainGraph → PlainGraph → Anchor → ℕ → Type 0
MayBegin l g (Edge k) j = (e : EdgePart) × (slice_get l.edges k ≡ Some e) × IsNamed g e.name j
MayBegin l g (Wire w) j = (sort : Sort) × (slice_get l.wires w ≡ Some sort) × IsOfSort g sort j

-- both are edges of one name, or wires of one sort
abbrev pub BeginAlike : PlainGraph → Anchor → Anchor → Type 0
BeginAlike l (Edge j) (Edge k) =
    (d : EdgePart) × (e : EdgePart) × (slice_get l.edges j ≡ Some d) × (slice_get l.edges k ≡ Some e) × (d.name ≡ e.name)
BeginAlike l (Wire v) (Wire w) = slice_get l.wires v ≡ slice_get l.wires w
BeginAlike l (Edge j) (Wire w) = ⊥
BeginAlike l (Wire v) (Edge k) = ⊥

-- the component before the component k, if there is one, may begin with so many edges or wires of g
abbrev pub IsKnownBefore : Parts → PlainGraph → ℕ → ℕ → Type 0
IsKnownBefore l g k n = (j : ℕ) (a : Anchor) → j + 1 ≡ k → slice_get l.anchors j ≡ Some a → IsCount (MayBegin l.graph g a) n

-- of each anchor, with how many edges or wires of g its component may begin
abbrev pub AreCounts : PlainGraph → PlainGraph → List Anchor → List ℕ → Type 0
AreCounts l g [] [] = Unit {0}
AreCounts l g [] (n ∷ ns) = ⊥
AreCounts l g (a ∷ others) [] = ⊥
AreCounts l g (a ∷ others) (n ∷ ns) = IsCount (MayBegin l g a) n × AreCounts l g others ns

-- the product of the numbers
abbrev pub product : List ℕ → ℕ
product [] = 1
product (n ∷ ns) = n * product ns

-- the number of placements of the pattern in g, or 2^64 - 1 where there are more: the product of these counts over its
-- components
pub record ArePlacements (l : Parts) (g : PlainGraph) (n : ℕ) : Type 0 where
  pub counts : List ℕ
  pub are : AreCounts l.graph g l.anchors counts
  pub is : n ≡ min (product counts) (2 ^ 64 - 1)
