-- The wires that leave the items of a column on its two sides.
use Rattle.std.specs.Prelude.{ℕ, ◌<◌, ◌≤◌, All, List, [], ◌∷◌, map, length, Option, Some, None, slice_get}
use Rattle.chyp_graph.specs.PlainGraph.{Edge, PlainGraph}
use Rattle.chyp_picture.specs.Limits.{most_points}
use Rattle.chyp_layout.specs.declared.item.Item.{Item}
use Rattle.chyp_layout.specs.declared.item.Item.TheVariants.{Box, Wire}
use Rattle.chyp_layout.specs.declared.side.Side.{Side}
use Rattle.chyp_layout.specs.declared.side.Side.TheVariants.{Left, Right}

abbrev pub opposite : Side → Side
opposite Left = Right
opposite Right = Left

-- the item is the box of an edge, or a wire, of the graph
abbrev pub IsItem : PlainGraph → Item → Type 0
IsItem g (Box k) = k < length g.edges
IsItem g (Wire w) = w < length g.wires

-- items of a column of a picture that is not too big
pub record AreItems (g : PlainGraph) (items : List Item) : Type 0 where
  pub each : All (IsItem g) items
  pub few : length items ≤ most_points

-- sources are on the left of a box, targets on its right
abbrev pub ports_on : Side → Option Edge → List ℕ
ports_on side None = []
ports_on Left (Some e) = e.sources
ports_on Right (Some e) = e.targets

-- the wires of an item on a side: those of a box are its ports there, and a wire passes
abbrev pub wires_on : PlainGraph → Side → Item → List ℕ
wires_on g side (Box k) = ports_on side (slice_get g.edges k)
wires_on g side (Wire w) = w ∷ []

-- the outermost items on a side: the inputs on the left, the outputs on the right
abbrev pub rim : PlainGraph → Side → List Item
rim g Left = map Wire g.inputs
rim g Right = map Wire g.outputs
