-- Paths that go on.
use Rattle.std.proofs.Common.{◌≡◌, ℕ, ◌+◌, ◌<◌, List, [], ◌∷◌, ◌++◌, length, get_or, take, drop, map, append_assoc, append-nil, arith, refl, sym, ap, ap₂, ◌∙◌}
use Rattle.std.proofs.lemmas.List.{drop_more, length-append, map-append, take-append-drop, take_more}
use Rattle.chyp_picture.specs.declared.line.Line.{Line}
use Rattle.chyp_picture.specs.declared.picture.Picture.{Picture}
use Rattle.chyp_picture.specs.declared.point.Point.{Point}
use Rattle.chyp_svg.specs.declared.place.Place.{Place}
use Rattle.chyp_svg.specs.Drawing.{bend_place, curve_text, curves_text, end_place, last_place, move_text, path_text, start_place, stroke}

-- the pieces over some places and over more are the first and then those from the last of these
pub curves-append : (from : Place) (xs ys : List Place) → curves_text from (xs ++ ys) ≡ curves_text from xs ++ curves_text (last_place from xs) ys
curves-append from [] ys = refl
curves-append from (to ∷ xs) ys = ap (λ t. curve_text from to ++ t) (curves-append to xs ys) ∙ sym (append_assoc (curve_text from to) (curves_text to xs) _)

last-append : (from : Place) (xs ys : List Place) → last_place from (xs ++ ys) ≡ last_place (last_place from xs) ys
last-append from [] ys = refl
last-append from (to ∷ xs) ys = last-append to xs ys

module _ (from : Place) (bends : List Point) (i : ℕ) (d : Point) (h : i < length bends) where
  next : map bend_place (take (i + 1) bends) ≡ map bend_place (take i bends) ++ bend_place (get_or bends i d) ∷ []
  next = ap (map bend_place) (take_more bends i d h) ∙ map-append bend_place (take i bends) (get_or bends i d ∷ [])

  abbrev before : List Place
  before = map bend_place (take i bends)

  pub last-next : (to : Place) → to ≡ bend_place (get_or bends i d) → to ≡ last_place from (map bend_place (take (i + 1) bends))
  last-next to e = e ∙ sym (ap (last_place from) next ∙ last-append from before (bend_place (get_or bends i d) ∷ []))

  module _ (last to : Place) (e : last ≡ last_place from before) (f : to ≡ bend_place (get_or bends i d)) where
    -- the pieces over the first bends go on with that to the next one
    pub curves-next : curves_text from before ++ curve_text last to ≡ curves_text from (map bend_place (take (i + 1) bends))
    curves-next =
        sym (ap (curves_text from) next ∙ curves-append from before (bend_place (get_or bends i d) ∷ []) ∙ ap (λ t. curves_text from before ++ t) (append-nil _)
        ∙ ap₂ (λ a b. curves_text from before ++ curve_text a b) (sym e) (sym f))

    pub curves-length : (n k : ℕ) → n ≡ length (curves_text from before) → k ≡ length (curve_text last to) → n + k ≡ length (curves_text from (map bend_place (take (i + 1) bends)))
    curves-length n k g h = omega (arith, g, h, length-append (curves_text from before) (curve_text last to), ap length curves-next)

    -- all pieces are those as far as a bend, that to the next one, and the rest
    pub curves-turn : curves_text from (map bend_place bends) ≡ curves_text from before ++ (curve_text last to ++ curves_text (bend_place (get_or bends i d)) (map bend_place (drop (i + 1) bends)))
    curves-turn =
        ap (λ bs. curves_text from (map bend_place bs)) (sym (take-append-drop i bends) ∙ ap (λ bs. take i bends ++ bs) (drop_more bends i d h))
        ∙ ap (curves_text from) (map-append bend_place (take i bends) (get_or bends i d ∷ drop (i + 1) bends))
        ∙ curves-append from before (bend_place (get_or bends i d) ∷ map bend_place (drop (i + 1) bends))
        ∙ ap₂ (λ a b. curves_text from before ++ (curve_text a b ++ curves_text (bend_place (get_or bends i d)) (map bend_place (drop (i + 1) bends)))) (sym e) (sym f)

-- the path of a line, in parts
pub path-parts : (p : Picture) (l : Line) (from last to : Place) (bends : List Point) → from ≡ start_place p l → bends ≡ l.bends
    → last ≡ last_place from (map bend_place bends) → to ≡ end_place p l
    → move_text from ++ (curves_text from (map bend_place bends) ++ (curve_text last to ++ stroke)) ≡ path_text p l
path-parts p l from last to bends e same f g =
    let places = map bend_place bends in
    ap (λ t. move_text from ++ t)
    (sym (append_assoc (curves_text from places) (curve_text last to) stroke)
    ∙ ap (λ t. (curves_text from places ++ t) ++ stroke) (ap₂ curve_text f g ∙ sym (append-nil (curve_text (last_place from places) (end_place p l))))
    ∙ ap (λ t. t ++ stroke) (sym (curves-append from places (end_place p l ∷ []))))
    ∙ ap₂ (λ a bs. move_text a ++ (curves_text a (map bend_place bs ++ end_place p l ∷ []) ++ stroke)) e same

pub path-length : (p : Picture) (l : Line) (from last to : Place) (bends : List Point) → from ≡ start_place p l → bends ≡ l.bends
    → last ≡ last_place from (map bend_place bends) → to ≡ end_place p l → (a b c : ℕ) → a ≡ length (move_text from) → b ≡ length (curves_text from (map bend_place bends))
    → c ≡ length (curve_text last to) → a + b + c + length stroke ≡ length (path_text p l)
path-length p l from last to bends e same f g a b c h i j =
    let places = map bend_place bends in
    omega (
      arith,
      h,
      i,
      j,
      ap length (path-parts p l from last to bends e same f g),
      length-append (move_text from) (curves_text from places ++ (curve_text last to ++ stroke)),
      length-append (curves_text from places) (curve_text last to ++ stroke),
      length-append (curve_text last to) stroke,
    )
