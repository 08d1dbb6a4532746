-- Boxes of one column stand one below the other.
use Rattle.std.proofs.Common.{ℕ, ◌+◌, ◌≤◌, ◌≡◌, ◌≢◌, List, [], ◌∷◌, Some, slice_get, ◌⊎◌, inl, inr, sym, ◌∙◌, ap, subst, arith}
use Rattle.chyp_term.proofs.Members.{Member, member-split}
use Rattle.chyp_term.proofs.Permuted.{found}
use Rattle.chyp_term.proofs.Positions.{slice_get-length}
use Rattle.chyp_graph.specs.PlainGraph.{Edge, PlainGraph}
use Rattle.chyp_picture.specs.declared.box_at.BoxAt.{BoxAt}
use Rattle.chyp_picture.specs.declared.picture.Picture.{Picture}
use Rattle.chyp_layout.specs.Columns.{columns_of}
use Rattle.chyp_layout.specs.Ends.{ends_of}
use Rattle.chyp_layout.specs.Order.{first_order}
use Rattle.chyp_layout.specs.PictureOf.{box_of, picture_in, picture_of}
use Rattle.chyp_layout.specs.Spots.{box_spot, edge_height, height_of, placed_from, placed_in}
use Rattle.chyp_layout.specs.declared.item.Item.{Item}
use Rattle.chyp_layout.specs.declared.item.Item.TheVariants.{Box}
use Rattle.chyp_layout.specs.declared.placed.Placed.{Placed}
use Rattle.chyp_layout_laws.specs.Laws.{IsBelow}
use Rattle.chyp_layout_laws.proofs.Layering.{box-at, boxes-count, column-low, columns-at, column_in}
use Rattle.chyp_layout_laws.proofs.Orders.{Alike, kept}
use Rattle.chyp_layout_laws.proofs.Standing.{IsSpotOf, placed-column, spot-of, in-item}

-- the one item stands above the other
abbrev pub IsOver : PlainGraph → Placed → Placed → Type 0
IsOver g p q = p.spot.top + height_of g p.item + 20 ≤ q.spot.top

in-under : (g : PlainGraph) (c place top : ℕ) (items : List Item) (p : Placed) → Member p (placed_in g c place top items) → top ≤ p.spot.top
in-under g c place top [] p m = absurd m
in-under g c place top (t ∷ ts) p (inl e) = let f = ap (λ p. p.spot.top) e in omega arith
in-under g c place top (t ∷ ts) p (inr m) = let h = in-under g c (place + 1) (top + height_of g t + 20) ts p m in omega arith

head-over : (g : PlainGraph) (c place top : ℕ) (t : Item) (ts : List Item) (p q : Placed) → ◌≡◌ {A = Placed} (record { item = t; spot = record { column = c; place = place; top = top } }) p
    → Member q (placed_in g c (place + 1) (top + height_of g t + 20) ts) → IsOver g p q
head-over g c place top t ts p q e m = subst (λ p. IsOver g p q) e (in-under g c (place + 1) (top + height_of g t + 20) ts q m)

in-apart : (g : PlainGraph) (c place top : ℕ) (items : List Item) (p q : Placed) → Member p (placed_in g c place top items) → Member q (placed_in g c place top items) → p.item ≢ q.item
    → (IsOver g p q) ⊎ (IsOver g q p)
in-apart g c place top [] p q m n d = absurd m
in-apart g c place top (t ∷ ts) p q (inl e) (inl f) d = absurd (d (sym (ap (λ p. p.item) e) ∙ ap (λ p. p.item) f))
in-apart g c place top (t ∷ ts) p q (inl e) (inr n) d = inl (head-over g c place top t ts p q e n)
in-apart g c place top (t ∷ ts) p q (inr m) (inl f) d = inr (head-over g c place top t ts q p f m)
in-apart g c place top (t ∷ ts) p q (inr m) (inr n) d = in-apart g c (place + 1) (top + height_of g t + 20) ts p q m n d

from-apart : (g : PlainGraph) (c : ℕ) (order : List (List Item)) (p q : Placed) → Member p (placed_from g c order) → Member q (placed_from g c order) → p.item ≢ q.item
    → p.spot.column ≡ q.spot.column → (IsOver g p q) ⊎ (IsOver g q p)
from-apart g c [] p q m n d s = absurd m
from-apart g c (items ∷ order) p q m n d s =
    go (member-split (placed_in g c 0 20 items) (placed_from g (c + 1) order) p m) (member-split (placed_in g c 0 20 items) (placed_from g (c + 1) order) q n)
    (λ a b. from-apart g (c + 1) order p q a b d s)
  where
    later : (x y : Placed) → Member x (placed_in g c 0 20 items) → Member y (placed_from g (c + 1) order) → x.spot.column ≡ y.spot.column → ⊥
    later x y a b e =
        let f = (in-item g c 0 20 items x a).1 in
        let h = placed-column g (c + 1) order y b in
        let i = h.4 in
        omega arith

    go : (Member p (placed_in g c 0 20 items)) ⊎ (Member p (placed_from g (c + 1) order)) → (Member q (placed_in g c 0 20 items)) ⊎ (Member q (placed_from g (c + 1) order))
        → (Member p (placed_from g (c + 1) order) → Member q (placed_from g (c + 1) order) → (IsOver g p q) ⊎ (IsOver g q p)) → (IsOver g p q) ⊎ (IsOver g q p)
    go (inl a) (inl b) ih = in-apart g c 0 20 items p q a b d
    go (inl a) (inr b) ih = absurd (later p q a b s)
    go (inr a) (inl b) ih = absurd (later q p b a (sym s))
    go (inr a) (inr b) ih = ih a b

module _ (g : PlainGraph) (order : List (List Item)) (alike : Alike (first_order (columns_of g) (ends_of g)) order) where
  spot : (k : ℕ) (e : Edge) → slice_get g.edges k ≡ Some e → IsSpotOf (placed_from g 1 order) k (box_spot (placed_from g 1 order) k)
  spot k e h = spot-of g (columns_of g) (ends_of g) order alike k (column_in g e) (columns-at g k e h) (column-low g k e h)

  -- a box is drawn at the spot of its item
  drawn-over : (j k : ℕ) (d e : Edge) → slice_get g.edges j ≡ Some d → slice_get g.edges k ≡ Some e → (p q : Placed) → p.item ≡ Box j → p.spot ≡ box_spot (placed_from g 1 order) j
      → q.spot ≡ box_spot (placed_from g 1 order) k → IsOver g p q → IsBelow (box_of (placed_from g 1 order) k e) (box_of (placed_from g 1 order) j d)
  drawn-over j k d e h i p q a b c o =
      let x = ap (λ s. s.top) b in
      let y = ap (λ s. s.top) c in
      let z = ap (height_of g) a ∙ ap edge_height h in
      omega arith

  boxes-apart : (j k : ℕ) (d e : Edge) → slice_get g.edges j ≡ Some d → slice_get g.edges k ≡ Some e → j ≢ k
      → (box_spot (placed_from g 1 order) j).column ≡ (box_spot (placed_from g 1 order) k).column
      → (IsBelow (box_of (placed_from g 1 order) j d) (box_of (placed_from g 1 order) k e)) ⊎ (IsBelow (box_of (placed_from g 1 order) k e) (box_of (placed_from g 1 order) j d))
  boxes-apart j k d e h i n s = go (from-apart g 1 order p.0 q.0 p.1 q.1 other (ap (λ s. s.column) p.3 ∙ s ∙ sym (ap (λ s. s.column) q.3)))
    where
      p : IsSpotOf (placed_from g 1 order) j (box_spot (placed_from g 1 order) j)
      p = spot j d h

      q : IsSpotOf (placed_from g 1 order) k (box_spot (placed_from g 1 order) k)
      q = spot k e i

      boxes-same : (j k : ℕ) → ◌≡◌ {A = Item} (Box j) (Box k) → j ≡ k
      boxes-same j k e = cc

      other : p.0.item ≢ q.0.item
      other e = n (boxes-same j k (sym p.2 ∙ e ∙ q.2))

      go : (IsOver g p.0 q.0) ⊎ (IsOver g q.0 p.0)
          → (IsBelow (box_of (placed_from g 1 order) j d) (box_of (placed_from g 1 order) k e)) ⊎ (IsBelow (box_of (placed_from g 1 order) k e) (box_of (placed_from g 1 order) j d))
      go (inl o) = inr (drawn-over j k d e h i p.0 q.0 p.2 p.3 q.3 o)
      go (inr o) = inl (drawn-over k j e d i h q.0 p.0 q.2 q.3 p.3 o)

  apart-in : (j k : ℕ) (a b : BoxAt) → slice_get (picture_in g order).boxes j ≡ Some a → slice_get (picture_in g order).boxes k ≡ Some b → j ≢ k → a.column ≡ b.column
      → (IsBelow a b) ⊎ (IsBelow b a)
  apart-in j k a b x y n s =
      let l = slice_get-length (picture_in g order).boxes j a x in
      let m = slice_get-length (picture_in g order).boxes k b y in
      let c = boxes-count g (placed_from g 1 order) in
      let d = found g.edges j (omega arith) in
      let e = found g.edges k (omega arith) in
      let u = box-is j d.0 d.1 a x in
      let w = box-is k e.0 e.1 b y in
      subst (λ z. (IsBelow z b) ⊎ (IsBelow b z)) (sym u) (subst (λ z. (IsBelow (box_of (placed_from g 1 order) j d.0) z) ⊎ (IsBelow z (box_of (placed_from g 1 order) j d.0))) (sym w)
      (boxes-apart j k d.0 e.0 d.1 e.1 n (sym (ap (λ z. z.column) u) ∙ s ∙ ap (λ z. z.column) w)))
    where
      some : (x y : BoxAt) → Some x ≡ Some y → x ≡ y
      some x y e = cc

      box-is : (i : ℕ) (e : Edge) → slice_get g.edges i ≡ Some e → (b : BoxAt) → slice_get (picture_in g order).boxes i ≡ Some b → b ≡ box_of (placed_from g 1 order) i e
      box-is i e h b f = some b (box_of (placed_from g 1 order) i e) (sym f ∙ box-at g (placed_from g 1 order) i e h)

pub apart-drawn : (g : PlainGraph) (j k : ℕ) (a b : BoxAt) → slice_get (picture_of g).boxes j ≡ Some a → slice_get (picture_of g).boxes k ≡ Some b → j ≢ k → a.column ≡ b.column
    → (IsBelow a b) ⊎ (IsBelow b a)
apart-drawn g =
    let o = kept g in
    subst (λ (p : Picture). (j k : ℕ) (a b : BoxAt) → slice_get p.boxes j ≡ Some a → slice_get p.boxes k ≡ Some b → j ≢ k → a.column ≡ b.column → (IsBelow a b) ⊎ (IsBelow b a)) (sym o.2)
    (apart-in g o.0 o.1)
