-- Where boxes and bends stand, in numbers.
use Rattle.std.specs.Prelude.{ℕ, ◌+◌, ◌*◌, ◌<◌, ◌==◌, cond, max, Bool, false, List, [], ◌∷◌, ◌++◌, map, filter, length, Option, None, Some, slice_get}
use Rattle.std.specs.List.{fold}
use Rattle.chyp_graph.specs.PlainGraph.{Edge, PlainGraph}
use Rattle.chyp_picture.specs.declared.point.Point.{Point}
use Rattle.chyp_layout.specs.declared.item.Item.{Item}
use Rattle.chyp_layout.specs.declared.item.Item.TheVariants.{Box, Wire}
use Rattle.chyp_layout.specs.declared.placed.Placed.{Placed}
use Rattle.chyp_layout.specs.declared.spot.Spot.{Spot}

-- the height of a box with so many sources and targets
abbrev pub box_height : ℕ → ℕ → ℕ
box_height sources targets = 20 * max 1 (max sources targets)

abbrev pub edge_height : Option Edge → ℕ
edge_height None = 20
edge_height (Some e) = box_height (length e.sources) (length e.targets)

-- the height of an item: every one that is no box has height 20
abbrev pub height_of : PlainGraph → Item → ℕ
height_of g (Box k) = edge_height (slice_get g.edges k)
height_of g (Wire w) = 20

-- the items of the column c with their spots, from a position and a top on: each next top is 20 below the bottom before it
abbrev pub placed_in : PlainGraph → ℕ → ℕ → ℕ → List Item → List Placed
placed_in g c place top [] = []
placed_in g c place top (t ∷ ts) =
    record { item = t; spot = record { column = c; place = place; top = top } } ∷ placed_in g c (place + 1) (top + height_of g t + 20) ts

-- the items of the columns from c on with their spots: in each column the first top is at 20
abbrev pub placed_from : PlainGraph → ℕ → List (List Item) → List Placed
placed_from g c [] = []
placed_from g c (items ∷ rest) = placed_in g c 0 20 items ++ placed_from g (c + 1) rest

abbrev pub is_box : ℕ → Item → Bool
is_box k (Box j) = j == k
is_box k (Wire w) = false

abbrev pub is_wire : ℕ → Item → Bool
is_wire w (Box k) = false
is_wire w (Wire v) = v == w

-- where nothing stands
abbrev pub nowhere : Spot
nowhere = record { column = 0; place = 0; top = 0 }

-- the spot of the box k: the last, should there be several
abbrev pub box_spot : List Placed → ℕ → Spot
box_spot placed k = fold (λ spot p. cond (is_box k p.item) p.spot spot) nowhere placed

-- a bend is in the middle of its column, 10 below its top
abbrev pub bend_at : Placed → Point
bend_at p = record { column = p.spot.column; place = p.spot.place; y = p.spot.top + 10 }

-- the bends of the wire w, from the left to the right
abbrev pub bends_on : List Placed → ℕ → List Point
bends_on placed w = map bend_at (filter (λ p. is_wire w p.item) placed)

-- a box is one of the first n
abbrev pub IsBoxBelow : ℕ → Item → Type 0
IsBoxBelow n (Box k) = k < n
IsBoxBelow n (Wire w) = Unit {0}

-- a wire is one of the first n
abbrev pub IsWireBelow : ℕ → Item → Type 0
IsWireBelow n (Box k) = Unit {0}
IsWireBelow n (Wire w) = w < n
