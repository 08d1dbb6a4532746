-- What contracts see of the room that a comparison of graphs works in.
use Rattle.std.specs.Prelude.{ℕ, ◌<◌, ◌≤◌, ◌≡◌, List, [], length, Option, Some, slice_index}
use Rattle.chyp_graph.specs.PlainGraph.{PlainGraph}
use Rattle.chyp_pairs.specs.declared.pair.Pair.{Pair}
use Rattle.chyp_pairs.specs.Pairs.{Pairs, image}

-- how many edges and wires each of two graphs may have
pub record Sizes : Type 0 where
  pub edges : ℕ
  pub wires : ℕ

-- the same with lists for the images of the edges and of the wires of a graph
pub record Room : Type 0 where
  pub edges : ℕ
  pub wires : ℕ
  pub edge_images : List ℕ
  pub wire_images : List ℕ

-- a graph of at most that many edges and wires
pub record HasRoomFor (edges wires : ℕ) (g : PlainGraph) : Type 0 where
  pub few_edges : length g.edges ≤ edges
  pub few_wires : length g.wires ≤ wires

-- no pairs are left, and the lists of images are as long as the tables
pub record IsBlank (pairing : Pairs) (edges wires : List ℕ) : Type 0 where
  pub empty : pairing.pairs ≡ []
  pub edge_room : length edges ≡ pairing.edges
  pub wire_room : length wires ≡ pairing.wires

-- the list has the image of each number below n that has one
abbrev pub AreImages : (Pair → Option (ℕ × ℕ)) → List Pair → ℕ → List ℕ → Type 0
AreImages says pairs n list = (x y : ℕ) → x < n → image says pairs x ≡ Some y → slice_index list x ≡ y
