-- The SVG text of a picture (W3C, Scalable Vector Graphics 1.1: `path`, `rect` and `text`).
use Rattle.std.specs.Prelude.{ℕ, ◌+◌, ◌-◌, ◌*◌, ◌/◌, ◌==◌, ◌||◌, if◌then◌else◌, not, Bool, List, [], ◌∷◌, ◌++◌, map, length, drop, flat_map, codes, decimal}
use Rattle.std.specs.List.{suffix_len}
use Rattle.chyp_picture.specs.declared.box_at.BoxAt.{BoxAt}
use Rattle.chyp_picture.specs.declared.end.End.{End}
use Rattle.chyp_picture.specs.declared.end.End.TheVariants.{Input, Output, Port}
use Rattle.chyp_picture.specs.declared.line.Line.{Line}
use Rattle.chyp_picture.specs.declared.picture.Picture.{Picture}
use Rattle.chyp_picture.specs.declared.point.Point.{Point}
use Rattle.chyp_picture.specs.Picture.{column_of}
use Rattle.chyp_svg.specs.declared.place.Place.{Place}

-- texts one behind the other
abbrev pub joined : List (List ℕ) → List ℕ
joined texts = flat_map (λ text. text) texts

-- how far the middle of a column is from the left side
abbrev pub middle_of : ℕ → ℕ
middle_of c = 40 + 100 * c

-- a port is 20 from the middle of its column, on a side of its box; an input or an output is in the middle
abbrev pub reach_of : End → ℕ
reach_of (Input i) = 0
reach_of (Output i) = 0
reach_of (Port b i) = 20

-- a line begins at the right side of a box
abbrev pub start_place : Picture → Line → Place
start_place p l = record { x = middle_of (column_of p l.from) + reach_of l.from; y = l.y_from }

-- a line ends at the left side of a box
abbrev pub end_place : Picture → Line → Place
end_place p l = record { x = middle_of (column_of p l.to) - reach_of l.to; y = l.y_to }

abbrev pub bend_place : Point → Place
bend_place b = record { x = middle_of b.column; y = b.y }

-- the places that a line leads to, from its first bend to its end
abbrev pub places_along : Picture → Line → List Place
places_along p l = map bend_place l.bends ++ end_place p l ∷ []

-- a piece: a cubic curve that leaves and arrives level, with its control points halfway
abbrev pub curve_text : Place → Place → List ℕ
curve_text from to =
    joined (codes " C " ∷ decimal ((from.x + to.x) / 2) ∷ codes " " ∷ decimal from.y ∷ codes " " ∷ decimal ((from.x + to.x) / 2) ∷ codes " "
    ∷ decimal to.y ∷ codes " " ∷ decimal to.x ∷ codes " " ∷ decimal to.y ∷ [])

-- the pieces from a place over others
abbrev pub curves_text : Place → List Place → List ℕ
curves_text from [] = []
curves_text from (to ∷ places) = curve_text from to ++ curves_text to places

-- the last of the places that are reached from a place
abbrev pub last_place : Place → List Place → Place
last_place from [] = from
last_place from (to ∷ places) = last_place to places

abbrev pub move_text : Place → List ℕ
move_text from = joined (codes "<path d=\"M " ∷ decimal from.x ∷ codes " " ∷ decimal from.y ∷ [])

-- what ends a path
abbrev pub stroke : List ℕ
stroke = codes "\" fill=\"none\" stroke=\"black\"/>\n"

-- the line of a wire
abbrev pub path_text : Picture → Line → List ℕ
path_text p l = move_text (start_place p l) ++ (curves_text (start_place p l) (places_along p l) ++ stroke)

-- the name of a generator without its module: what stands behind its last `/`
abbrev pub label_of : List ℕ → List ℕ
label_of name = drop (length name - suffix_len (λ byte. not (byte == 47)) name) name

-- a byte that is written as it is: none of `&`, `<`, `>` and `"`
abbrev pub is_plain : ℕ → Bool
is_plain byte = not (byte == 38 || byte == 60 || byte == 62 || byte == 34)

-- what is written for a byte of a label, where these four have names
abbrev pub escaped : ℕ → List ℕ
escaped byte =
    if byte == 38 then codes "&amp;" else if byte == 60 then codes "&lt;" else if byte == 62 then codes "&gt;"
    else if byte == 34 then codes "&quot;" else byte ∷ []

-- the frame of a box
abbrev pub frame_text : BoxAt → List ℕ
frame_text b =
    joined (codes "<rect x=\"" ∷ decimal (middle_of b.column - 20) ∷ codes "\" y=\"" ∷ decimal b.top
    ∷ codes "\" width=\"40\" height=\"" ∷ decimal b.height ∷ codes "\" fill=\"white\" stroke=\"black\"/>\n" ∷ [])

-- what stands before the label of a box
abbrev pub caption_text : BoxAt → List ℕ
caption_text b =
    joined (codes "<text x=\"" ∷ decimal (middle_of b.column) ∷ codes "\" y=\"" ∷ decimal (b.top + b.height / 2 + 4)
    ∷ codes "\" text-anchor=\"middle\" font-size=\"12\">" ∷ [])

-- the two lines of a box
abbrev pub box_text : BoxAt → List ℕ
box_text b = frame_text b ++ (caption_text b ++ (flat_map escaped (label_of b.name) ++ codes "</text>\n"))

abbrev pub head_text : Picture → List ℕ
head_text p =
    joined (codes "<svg xmlns=\"http://www.w3.org/2000/svg\" viewBox=\"0 0 " ∷ decimal p.width ∷ codes " " ∷ decimal p.height
    ∷ codes "\">\n" ∷ [])

-- the text of a picture: wires first, and boxes over them
abbrev pub drawing_of : Picture → List ℕ
drawing_of p = head_text p ++ (flat_map (path_text p) p.lines ++ (flat_map box_text p.boxes ++ codes "</svg>\n"))
