-- Pairs of a wire or an edge of one graph and one of another.
use Rattle.std.specs.Prelude.{ℕ, ◌<◌, ◌≡◌, List, [], ◌∷◌, length, Some, slice_get}
use Rattle.chyp_graph.specs.PlainGraph.{Edge, PlainGraph}
use Rattle.chyp_graph.specs.Isomorphism.{Isomorphic}
use Rattle.chyp_pairs.specs.declared.pair.Pair.{Pair}
use Rattle.chyp_pairs.specs.declared.pair.Pair.TheVariants.{Wires, Edges}

-- the wires have one sort
pub record WiresFit (g h : PlainGraph) (v w : ℕ) : Type 0 where
  pub there : v < length g.wires
  pub within : w < length h.wires
  pub sorts : slice_get h.wires w ≡ slice_get g.wires v

-- the edges have one name, and as many sources and targets
pub record AreAlike (first second : Edge) : Type 0 where
  pub names : second.name ≡ first.name
  pub source_count : length second.sources ≡ length first.sources
  pub target_count : length second.targets ≡ length first.targets

-- both edges are there, and alike
pub record EdgesFit (g h : PlainGraph) (e f : ℕ) : Type 0 where
  pub first : Edge
  pub second : Edge
  pub first_is : slice_get g.edges e ≡ Some first
  pub second_is : slice_get h.edges f ≡ Some second
  pub alike : AreAlike first second

-- the pair may be part of an isomorphism, as far as it can be told from its two items
abbrev pub PairFits : PlainGraph → PlainGraph → Pair → Type 0
PairFits g h (Wires v w) = WiresFit g h v w
PairFits g h (Edges e f) = EdgesFit g h e f

-- the isomorphism takes the first item of the pair to the second
abbrev pub MapsPair : {g h : PlainGraph} → Isomorphic g h → Pair → Type 0
MapsPair iso (Wires v w) = iso.wire v ≡ w
MapsPair iso (Edges e f) = iso.edge e ≡ f

-- the wires of two lists in pairs, place by place
abbrev pub wire_pairs : List ℕ → List ℕ → List Pair
wire_pairs [] ws = []
wire_pairs (v ∷ vs) [] = []
wire_pairs (v ∷ vs) (w ∷ ws) = Wires v w ∷ wire_pairs vs ws
