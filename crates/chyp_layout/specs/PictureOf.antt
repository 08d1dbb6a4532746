-- The picture of a graph: that of an order of the columns, and which order is kept.
use Rattle.std.specs.Prelude.{ℕ, ◌≡◌, ◌+◌, ◌*◌, ◌/◌, ◌<◌, cond, nat_lt, List, [], ◌∷◌, map, length, sum_by}
use Rattle.std.specs.List.{enumerate_from, range_with_len}
use Rattle.chyp_base.specs.declared.sort.Sort.{Sort}
use Rattle.chyp_graph.specs.PlainGraph.{Edge, PlainGraph}
use Rattle.chyp_picture.specs.Crossings.{crossings_of}
use Rattle.chyp_picture.specs.declared.box_at.BoxAt.{BoxAt}
use Rattle.chyp_picture.specs.declared.end.End.{End}
use Rattle.chyp_picture.specs.declared.end.End.TheVariants.{Input, Output, Port}
use Rattle.chyp_picture.specs.declared.line.Line.{Line}
use Rattle.chyp_picture.specs.declared.picture.Picture.{Picture}
use Rattle.chyp_picture.specs.declared.point.Point.{Point}
use Rattle.chyp_layout.specs.Columns.{columns_of, greatest, point_count}
use Rattle.chyp_layout.specs.Ends.{ends_of, from_of, to_of}
use Rattle.chyp_layout.specs.Order.{first_order}
use Rattle.chyp_layout.specs.Side.{rim, wires_on}
use Rattle.chyp_layout.specs.Spots.{bends_on, box_height, box_spot, height_of, placed_from}
use Rattle.chyp_layout.specs.Sweep.{sweep_of}
use Rattle.chyp_layout.specs.declared.item.Item.{Item}
use Rattle.chyp_layout.specs.declared.item.Item.TheVariants.{Box}
use Rattle.chyp_layout.specs.declared.placed.Placed.{Placed}
use Rattle.chyp_layout.specs.declared.side.Side.{Side}
use Rattle.chyp_layout.specs.declared.side.Side.TheVariants.{Left, Right}
use Rattle.chyp_layout.specs.declared.spot.Spot.{Spot}

-- the port i of n on a side of a box stands in the middle of the i-th of n equal parts of the side
abbrev pub port_y : ℕ → ℕ → ℕ → ℕ → ℕ
port_y top height i n = top + height * (2 * i + 1) / (2 * n)

-- the end is an input, an output, or a port of a box on this side
abbrev pub IsPortOn : PlainGraph → Side → End → Type 0
IsPortOn g side (Input i) = Unit {0}
IsPortOn g side (Output i) = Unit {0}
IsPortOn g side (Port k i) = (k < length g.edges) × (i < length (wires_on g side (Box k)))

-- how far down an end of a wire is, which stands on this side of its box, if at a box; of inputs and outputs, each 20 high and
-- 20 below the one before, the first top is at 20, and the point is 10 below the top
abbrev pub end_y : PlainGraph → List Placed → Side → End → ℕ
end_y g placed side (Input i) = 30 + 40 * i
end_y g placed side (Output i) = 30 + 40 * i
end_y g placed side (Port k i) = port_y (box_spot placed k).top (height_of g (Box k)) i (length (wires_on g side (Box k)))

-- the box of the edge e, whose number is k
abbrev pub box_of : List Placed → ℕ → Edge → BoxAt
box_of placed k e = let spot = box_spot placed k in record {
  name = e.name;
  column = spot.column;
  place = spot.place;
  top = spot.top;
  height = box_height (length e.sources) (length e.targets);
}

-- the line of the wire w
abbrev pub line_of : PlainGraph → List Placed → ℕ → Sort → Line
line_of g placed w sort = record {
  sort = sort;
  from = from_of g w;
  to = to_of g w;
  bends = bends_on placed w;
  y_from = end_y g placed Right (from_of g w);
  y_to = end_y g placed Left (to_of g w);
}

-- the boxes, in edge order
abbrev pub boxes_of : PlainGraph → List Placed → List BoxAt
boxes_of g placed = map (λ p. box_of placed p.0 p.1) (enumerate_from 0 g.edges)

-- the lines, in wire order
abbrev pub lines_of : PlainGraph → List Placed → List Line
lines_of g placed = map (λ p. line_of g placed p.0 p.1) (enumerate_from 0 g.wires)

-- the spots of all boxes, and the bends of all wires
abbrev pub all_spots : PlainGraph → List Placed → List Spot
all_spots g placed = map (box_spot placed) (range_with_len 0 (length g.edges))

abbrev pub all_bends : PlainGraph → List Placed → List (List Point)
all_bends g placed = map (bends_on placed) (range_with_len 0 (length g.wires))

-- these are the boxes of whatever items have these spots
abbrev pub AreBoxes : PlainGraph → List Spot → List BoxAt → Type 0
AreBoxes g spots boxes = (placed : List Placed) → spots ≡ all_spots g placed → boxes ≡ boxes_of g placed

-- these are the lines of whatever items have these spots and bends
abbrev pub AreLines : PlainGraph → List Spot → List (List Point) → List Line → Type 0
AreLines g spots bends lines =
    (placed : List Placed) → spots ≡ all_spots g placed → bends ≡ all_bends g placed → lines ≡ lines_of g placed

-- the heights of a column's items, with 20 below each
abbrev pub column_height : PlainGraph → List Item → ℕ
column_height g items = sum_by (λ t. height_of g t + 20) items

-- the greatest height of a column, and 20 above the first items
abbrev pub picture_height : PlainGraph → List (List Item) → ℕ
picture_height g order = 20 + greatest (map (column_height g) (rim g Left ∷ rim g Right ∷ order))

-- the picture of the graph in an order of its columns
abbrev pub picture_in : PlainGraph → List (List Item) → Picture
picture_in g order = let placed = placed_from g 1 order in record {
  width = 40 + 100 * (length order + 1) + 40;
  height = picture_height g order;
  columns = length order;
  boxes = boxes_of g placed;
  lines = lines_of g placed;
  inputs = length g.inputs;
  outputs = length g.outputs;
}

-- the orders that the sweeps leave one after another
abbrev pub orders_after : PlainGraph → List Side → List (List Item) → List (List (List Item))
orders_after g [] order = []
orders_after g (side ∷ sides) order = sweep_of g side order ∷ orders_after g sides (sweep_of g side order)

-- four sweeps: to the right, with the neighbours on the left, and back, and once more
abbrev pub four_sweeps : List Side
four_sweeps = Left ∷ Right ∷ Left ∷ Right ∷ []

-- the first with the fewest crossings of `best` and the pictures behind it
abbrev pub fewest : Picture → List Picture → Picture
fewest best [] = best
fewest best (p ∷ ps) = fewest (cond (nat_lt (crossings_of p) (crossings_of best)) p best) ps

-- the picture of the first order, or of that after one of the sweeps: the first with the fewest crossings
abbrev pub best_after : PlainGraph → List Side → List (List Item) → Picture
best_after g sides order = fewest (picture_in g order) (map (picture_in g) (orders_after g sides order))

-- the picture of a graph
abbrev pub picture_of : PlainGraph → Picture
picture_of g = best_after g four_sweeps (first_order (columns_of g) (ends_of g))

-- how many boxes and bends the picture of a graph has
abbrev pub points_of : PlainGraph → ℕ
points_of g = point_count (columns_of g) (ends_of g)
