-- Crossings of wires in a layered drawing: those of the pieces between each two adjacent columns (Sugiyama, Tagawa and
-- Toda, Methods for Visual Understanding of Hierarchical System Structures).
use Rattle.std.specs.Prelude.{ℕ, ◌+◌, ◌-◌, ◌<◌, ◌&&◌, ◌||◌, ◌==◌, nat_lt, nat_le, if◌then◌else◌, cond, Bool, false, List, [], ◌∷◌, ◌++◌, map, length, sum_by, filter_map, slice_get, slice_index_or, Option, None, Some}
use Rattle.std.specs.List.{range_with_len}
use Rattle.chyp_picture.specs.declared.box_at.BoxAt.{BoxAt}
use Rattle.chyp_picture.specs.declared.end.End.{End}
use Rattle.chyp_picture.specs.declared.end.End.TheVariants.{Input, Output, Port}
use Rattle.chyp_picture.specs.declared.line.Line.{Line}
use Rattle.chyp_picture.specs.declared.picture.Picture.{Picture}
use Rattle.chyp_picture.specs.declared.piece.Piece.{Piece}
use Rattle.chyp_picture.specs.declared.piece_end.PieceEnd.{PieceEnd}
use Rattle.chyp_picture.specs.declared.point.Point.{Point}
use Rattle.chyp_picture.specs.Picture.{column_of}

-- an end is before another of its column: at an earlier position, or at an earlier port of the same box
abbrev pub is_before : PieceEnd → PieceEnd → Bool
is_before a b = nat_lt a.position b.position || (a.position == b.position && nat_lt a.port b.port)

-- two pieces cross: one left end is before the other, and the right ends stand the other way round
abbrev pub crosses : Piece → Piece → Bool
crosses x y = (is_before x.left y.left && is_before y.right x.right) || (is_before y.left x.left && is_before x.right y.right)

-- the sum of a weight over the unordered pairs of a list
abbrev pub sum_of_pairs : {X : Type 0} → (X → X → ℕ) → List X → ℕ
sum_of_pairs w [] = 0
sum_of_pairs w (x ∷ xs) = sum_by (w x) xs + sum_of_pairs w xs

-- how many unordered pairs of a list are related
abbrev pub pair_count : {X : Type 0} → (X → X → Bool) → List X → ℕ
pair_count r xs = sum_of_pairs (λ x y. cond (r x y) 1 0) xs

-- how many pairs of a list stand the other way round: the later of the two is before the earlier
abbrev pub inversion_count : List PieceEnd → ℕ
inversion_count ends = pair_count (λ x y. is_before y x) ends

-- how many unordered pairs of pieces cross
abbrev pub crossing_number : List Piece → ℕ
crossing_number pieces = pair_count crosses pieces

-- the position of a box that is there
abbrev pub box_place : Option BoxAt → ℕ
box_place None = 0
box_place (Some b) = b.place

-- where an end of a line meets its column: at the input, the output or the port of the box
abbrev pub end_of : Picture → End → PieceEnd
end_of p (Input i) = record { position = i; port = 0 }
end_of p (Output i) = record { position = i; port = 0 }
end_of p (Port b i) = record { position = box_place (slice_get p.boxes b); port = i }

-- where a line meets the column of a bend
abbrev pub bend_end : Point → PieceEnd
bend_end b = record { position = b.place; port = 0 }

-- where a line meets its columns, from its start over its bends to its end
abbrev pub ends_along : Picture → Line → List PieceEnd
ends_along p l = end_of p l.from ∷ (map bend_end l.bends ++ end_of p l.to ∷ [])

-- the end of the line in the column that stands k columns after its start
abbrev pub end_after : Picture → Line → ℕ → PieceEnd
end_after p l k = slice_index_or (ends_along p l) k (end_of p l.to)

-- the piece of the line between the column c and the next, where it has one
abbrev pub piece_at : Picture → ℕ → Line → Option Piece
piece_at p c l =
    if nat_le (column_of p l.from) c && nat_lt c (column_of p l.to)
    then Some (record { left = end_after p l (c - column_of p l.from); right = end_after p l (c - column_of p l.from + 1) })
    else None

-- the pieces between the column c and the next, in the order of the lines
abbrev pub pieces_between : Picture → ℕ → List Piece
pieces_between p c = filter_map (piece_at p c) p.lines

-- the crossings of a picture: the sum over adjacent columns, from that of the inputs to that of the outputs
abbrev pub crossings_of : Picture → ℕ
crossings_of p = sum_by (λ c. crossing_number (pieces_between p c)) (range_with_len 0 (p.columns + 1))

-- two lines cross where both have a piece and these cross
abbrev pub both_cross : Option Piece → Option Piece → Bool
both_cross None y = false
both_cross (Some x) None = false
both_cross (Some x) (Some y) = crosses x y

-- at how many of the picture's columns two lines cross
abbrev pub line_crossings : Picture → Line → Line → ℕ
line_crossings p l m = sum_by (λ c. cond (both_cross (piece_at p c l) (piece_at p c m)) 1 0) (range_with_len 0 (p.columns + 1))

-- a port's box is there
abbrev pub HasBox : Picture → End → Type 0
HasBox p (Input i) = Unit {0}
HasBox p (Output i) = Unit {0}
HasBox p (Port b i) = b < length p.boxes

-- where an end of the line is a port, its box is there
pub record HasBoxes (p : Picture) (l : Line) : Type 0 where
  pub from : HasBox p l.from
  pub to : HasBox p l.to
