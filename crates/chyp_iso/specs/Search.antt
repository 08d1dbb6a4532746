-- Pairings of two graphs of which nothing hangs on what is in no pair. No public clause cites this.
use Rattle.std.specs.Prelude.{ℕ, ◌<◌, ◌≡◌, ◌++◌, List, length}
use Rattle.chyp_graph.specs.PlainGraph.{PlainGraph}
use Rattle.chyp_graph.specs.Isomorphism.{Isomorphic}
use Rattle.chyp_pairs.specs.declared.pair.Pair.{Pair}
use Rattle.chyp_pairs.specs.declared.pair.Pair.TheVariants.{Edges}
use Rattle.chyp_iso.specs.Pair.{wire_pairs}
use Rattle.chyp_pairs.specs.Pairs.{Has, IsMatching, Pairs}
use Rattle.chyp_iso.specs.Following.{Fits, Includes, IsComplete, Maps}

-- as many edges and as many wires
pub record HaveSameCounts (g h : PlainGraph) : Type 0 where
  pub edge_count : length h.edges ≡ length g.edges
  pub wire_count : length h.wires ≡ length g.wires

-- as many inputs and as many outputs
pub record HaveSameEnds (g h : PlainGraph) : Type 0 where
  pub input_count : length g.inputs ≡ length h.inputs
  pub output_count : length g.outputs ≡ length h.outputs

-- the inputs and the outputs of two graphs in pairs, place by place
abbrev pub end_pairs : PlainGraph → PlainGraph → List Pair
end_pairs g h = wire_pairs g.inputs h.inputs ++ wire_pairs g.outputs h.outputs

-- the pairs are those of an isomorphism between parts of the graphs, which have both interfaces and to which nothing hangs
pub record IsPairing (g h : PlainGraph) (s : Pairs) : Type 0 where
  pub fits : Fits g h s
  pub matching : IsMatching s.pairs
  pub complete : IsComplete g h s.pairs
  pub same_ends : HaveSameEnds g h
  pub ends : Includes (end_pairs g h) s.pairs

-- t has the pairs of s and more, and where an isomorphism makes those of s, one makes those of t
pub record IsExtended (g h : PlainGraph) (s t : Pairs) : Type 0 where
  pub whole : IsPairing g h t
  pub kept : Includes s.pairs t.pairs
  pub exchanged : (iso : Isomorphic g h) → Maps iso s.pairs → (other : Isomorphic g h) × Maps other t.pairs

-- each edge below n is in a pair
abbrev pub AreKnown : List Pair → ℕ → Type 0
AreKnown pairs n = (e : ℕ) → e < n → (f : ℕ) × Has pairs (Edges e f)

-- all items of the graphs are in pairs
pub record IsWhole (g h : PlainGraph) (s : Pairs) : Type 0 where
  pub pairing : IsPairing g h s
  pub counts : HaveSameCounts g h
  pub known : AreKnown s.pairs (length g.edges)
