-- The text of a box, in parts.
use Rattle.std.proofs.Common.{◌≡◌, ℕ, ◌+◌, ◌-◌, ◌/◌, List, [], ◌∷◌, ◌++◌, codes, decimal, flat_map, refl, ap}
use Rattle.chyp_picture.specs.declared.box_at.BoxAt.{BoxAt}
use Rattle.chyp_picture.specs.declared.picture.Picture.{Picture}
use Rattle.chyp_svg.specs.Drawing.{box_text, caption_text, drawing_of, escaped, frame_text, head_text, joined, label_of, middle_of, path_text}

pub frame-parts : (b : BoxAt) (side top height : List ℕ) → side ≡ decimal (middle_of b.column - 20) → top ≡ decimal b.top → height ≡ decimal b.height
    → joined (codes "<rect x=\"" ∷ side ∷ codes "\" y=\"" ∷ top ∷ codes "\" width=\"40\" height=\"" ∷ height ∷ codes "\" fill=\"white\" stroke=\"black\"/>\n" ∷ []) ≡ frame_text b
frame-parts b side top height e f g = rw (e, f, g) refl

pub caption-parts : (b : BoxAt) (middle base : List ℕ) → middle ≡ decimal (middle_of b.column) → base ≡ decimal (b.top + b.height / 2 + 4)
    → joined (codes "<text x=\"" ∷ middle ∷ codes "\" y=\"" ∷ base ∷ codes "\" text-anchor=\"middle\" font-size=\"12\">" ∷ []) ≡ caption_text b
caption-parts b middle base e f = rw (e, f) refl

pub box-parts : (b : BoxAt) (label : List ℕ) → label ≡ label_of b.name → frame_text b ++ (caption_text b ++ (flat_map escaped label ++ codes "</text>\n")) ≡ box_text b
box-parts b label e = ap (λ l. frame_text b ++ (caption_text b ++ (flat_map escaped l ++ codes "</text>\n"))) e

pub head-parts : (p : Picture) (width height : List ℕ) → width ≡ decimal p.width → height ≡ decimal p.height
    → joined (codes "<svg xmlns=\"http://www.w3.org/2000/svg\" viewBox=\"0 0 " ∷ width ∷ codes " " ∷ height ∷ codes "\">\n" ∷ []) ≡ head_text p
head-parts p width height e f = rw (e, f) refl

-- the whole text, from the texts of its boxes
pub drawing-parts : (p : Picture) (boxes : List BoxAt) → boxes ≡ p.boxes → head_text p ++ (flat_map (path_text p) p.lines ++ (flat_map box_text boxes ++ codes "</svg>\n")) ≡ drawing_of p
drawing-parts p boxes e = ap (λ bs. head_text p ++ (flat_map (path_text p) p.lines ++ (flat_map box_text bs ++ codes "</svg>\n"))) e
