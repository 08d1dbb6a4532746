-- The order that is kept, and how it comes from the first.
use Rattle.std.proofs.Common.{ℕ, zero, suc, ◌+◌, ◌≤◌, ◌≡◌, Bool, true, false, cond, ltb, List, [], ◌∷◌, ◌++◌, map, reverse, Some, slice_get, inl, inr, refl, sym, ap, subst, arith}
use Rattle.std.specs.List.{enumerate_from}
use Rattle.std.proofs.lemmas.Bool.{ltb-true}
use Rattle.std.proofs.lemmas.List.{reverse-append, reverse-reverse}
use Rattle.chyp_term.proofs.Members.{Member, map-member}
use Rattle.chyp_term.proofs.Rearrangement.{Rearr, Rearr-map, Rearr-refl, Rearr-same, Rearr-sym, end, join, skip, turn}
use Rattle.chyp_graph.specs.PlainGraph.{PlainGraph}
use Rattle.chyp_picture.specs.Crossings.{crossings_of}
use Rattle.chyp_picture.specs.declared.picture.Picture.{Picture}
use Rattle.chyp_layout.specs.Columns.{columns_of}
use Rattle.chyp_layout.specs.Ends.{ends_of}
use Rattle.chyp_layout.specs.Order.{first_order}
use Rattle.chyp_layout.specs.PictureOf.{fewest, four_sweeps, orders_after, picture_in, picture_of}
use Rattle.chyp_layout.specs.Side.{rim}
use Rattle.chyp_layout.specs.Sweep.{inserted, is_below, mean_of, sorted_by, sorted_column, sweep_of, swept, with_means}
use Rattle.chyp_layout.specs.declared.item.Item.{Item}
use Rattle.chyp_layout.specs.declared.side.Side.{Side}
use Rattle.chyp_layout.specs.declared.side.Side.TheVariants.{Left, Right}
use Rattle.chyp_layout_laws.specs.Laws.{first_picture}

-- ## the fewest crossings

fewest-few : (best : Picture) (ps : List Picture) → crossings_of (fewest best ps) ≤ crossings_of best
fewest-few best [] = omega arith
fewest-few best (p ∷ ps) = go (ltb (crossings_of p) (crossings_of best)) refl (fewest-few p ps) (fewest-few best ps)
  where
    go : (b : Bool) → ltb (crossings_of p) (crossings_of best) ≡ b → crossings_of (fewest p ps) ≤ crossings_of p → crossings_of (fewest best ps) ≤ crossings_of best
        → crossings_of (fewest (cond b p best) ps) ≤ crossings_of best
    go true e h k = let l = ltb-true (crossings_of p) (crossings_of best) e in omega arith
    go false e h k = k

pub picture-few : (g : PlainGraph) → crossings_of (picture_of g) ≤ crossings_of (first_picture g)
picture-few g = fewest-few (first_picture g) (map (picture_in g) (orders_after g four_sweeps (first_order (columns_of g) (ends_of g))))

-- ## columns that are rearranged

-- each column of the one order is that of the other, rearranged
abbrev pub Alike : List (List Item) → List (List Item) → Type 0
Alike [] [] = Unit {0}
Alike [] (y ∷ ys) = ⊥
Alike (x ∷ xs) [] = ⊥
Alike (x ∷ xs) (y ∷ ys) = Rearr x y × Alike xs ys

alike-refl : (xs : List (List Item)) → Alike xs xs
alike-refl [] = tt
alike-refl (x ∷ xs) = (Rearr-refl x, alike-refl xs)

alike-then : (xs ys zs : List (List Item)) → Alike xs ys → Alike ys zs → Alike xs zs
alike-then [] [] zs a b = b
alike-then [] (y ∷ ys) zs a b = absurd a
alike-then (x ∷ xs) [] zs a b = absurd a
alike-then (x ∷ xs) (y ∷ ys) [] a b = absurd b
alike-then (x ∷ xs) (y ∷ ys) (z ∷ zs) a b = (join a.0 b.0, alike-then xs ys zs a.1 b.1)

alike-append : (xs ys us vs : List (List Item)) → Alike xs ys → Alike us vs → Alike (xs ++ us) (ys ++ vs)
alike-append [] [] us vs a b = b
alike-append [] (y ∷ ys) us vs a b = absurd a
alike-append (x ∷ xs) [] us vs a b = absurd a
alike-append (x ∷ xs) (y ∷ ys) us vs a b = (a.0, alike-append xs ys us vs a.1 b)

alike-reverse : (xs ys : List (List Item)) → Alike xs ys → Alike (reverse xs) (reverse ys)
alike-reverse [] [] a = tt
alike-reverse [] (y ∷ ys) a = absurd a
alike-reverse (x ∷ xs) [] a = absurd a
alike-reverse (x ∷ xs) (y ∷ ys) a =
    subst (λ l. Alike l (reverse (y ∷ ys))) (sym (reverse-append (x ∷ []) xs))
    (subst (Alike (reverse xs ++ x ∷ [])) (sym (reverse-append (y ∷ []) ys)) (alike-append (reverse xs) (reverse ys) (x ∷ []) (y ∷ []) (alike-reverse xs ys a.1) (a.0, tt)))

-- a column of the one, found in the other
pub alike-at : (xs ys : List (List Item)) (j : ℕ) (y : List Item) → Alike xs ys → slice_get ys j ≡ Some y → (x : List Item) × (slice_get xs j ≡ Some x) × (Rearr x y)
alike-at [] [] j y a h = cc
alike-at [] (z ∷ ys) j y a h = absurd a
alike-at (x ∷ xs) [] j y a h = absurd a
alike-at (x ∷ xs) (z ∷ ys) zero y a h = let e : z ≡ y = cc in (x, refl, subst (Rearr x) e a.0)
alike-at (x ∷ xs) (z ∷ ys) (suc j) y a h = alike-at xs ys j y a.1 h

pub alike-back : (xs ys : List (List Item)) → Alike xs ys → Alike ys xs
alike-back [] [] a = tt
alike-back [] (y ∷ ys) a = absurd a
alike-back (x ∷ xs) [] a = absurd a
alike-back (x ∷ xs) (y ∷ ys) a = (Rearr-sym a.0, alike-back xs ys a.1)

-- ## sorting rearranges

inserted-rearr : {X : Type 0} (below : X → X → Bool) (x : X) (ys : List X) → Rearr (x ∷ ys) (inserted below x ys)
inserted-rearr below x [] = Rearr-refl (x ∷ [])
inserted-rearr {X} below x (y ∷ ys) = go (below y x) (inserted-rearr below x ys)
  where
    go : (b : Bool) → Rearr (x ∷ ys) (inserted below x ys) → Rearr (x ∷ y ∷ ys) (cond b (y ∷ inserted below x ys) (x ∷ y ∷ ys))
    go true r = join (turn x y ys) (skip y r)
    go false r = Rearr-refl (x ∷ y ∷ ys)

sorted-rearr : {X : Type 0} (below : X → X → Bool) (xs : List X) → Rearr xs (sorted_by below xs)
sorted-rearr below [] = end
sorted-rearr below (x ∷ xs) = join (skip x (sorted-rearr below xs)) (inserted-rearr below x (sorted_by below xs))

items-of : (f : ℕ × Item → ℕ × ℕ) (n : ℕ) (items : List Item) → map (λ (r : (ℕ × ℕ) × Item). r.1) (map (λ (p : ℕ × Item). (f p, p.1)) (enumerate_from n items)) ≡ items
items-of f n [] = refl
items-of f n (t ∷ items) = ap (λ l. t ∷ l) (items-of f (n + 1) items)

column-rearr : (g : PlainGraph) (side : Side) (beside items : List Item) → Rearr items (sorted_column g side beside items)
column-rearr g side beside items =
    join (Rearr-same (sym (items-of (λ p. mean_of g side beside p.0 p.1) 0 items)))
    (Rearr-map (λ (r : (ℕ × ℕ) × Item). r.1) (sorted-rearr (λ r s. is_below r.0 s.0) (with_means g side beside items)))

swept-alike : (g : PlainGraph) (side : Side) (beside : List Item) (order : List (List Item)) → Alike order (swept g side beside order)
swept-alike g side beside [] = tt
swept-alike g side beside (items ∷ order) = (column-rearr g side beside items, swept-alike g side (sorted_column g side beside items) order)

sweep-alike : (g : PlainGraph) (side : Side) (order : List (List Item)) → Alike order (sweep_of g side order)
sweep-alike g Left order = swept-alike g Left (rim g Left) order
sweep-alike g Right order =
    subst (λ l. Alike l (reverse (swept g Right (rim g Right) (reverse order)))) (reverse-reverse order)
    (alike-reverse (reverse order) (swept g Right (rim g Right) (reverse order)) (swept-alike g Right (rim g Right) (reverse order)))

-- ## the order that is kept

fewest-is : (P : Picture → Type 0) (best : Picture) (ps : List Picture) → P best → ((p : Picture) → Member p ps → P p) → P (fewest best ps)
fewest-is P best [] h f = h
fewest-is P best (p ∷ ps) h f = fewest-is P (cond (ltb (crossings_of p) (crossings_of best)) p best) ps (go (ltb (crossings_of p) (crossings_of best))) (λ q m. f q (inr m))
  where
    go : (b : Bool) → P (cond b p best)
    go true = f p (inl refl)
    go false = h

orders-alike : (g : PlainGraph) (first : List (List Item)) (sides : List Side) (order : List (List Item)) → Alike first order → (o : List (List Item)) → Member o (orders_after g sides order)
    → Alike first o
orders-alike g first [] order a o m = absurd m
orders-alike g first (side ∷ sides) order a o (inl e) = subst (Alike first) e (alike-then first order (sweep_of g side order) a (sweep-alike g side order))
orders-alike g first (side ∷ sides) order a o (inr m) =
    orders-alike g first sides (sweep_of g side order) (alike-then first order (sweep_of g side order) a (sweep-alike g side order)) o m

-- the picture is that of an order which the first gives by rearranging columns
abbrev pub IsKept : PlainGraph → Picture → Type 0
IsKept g p = (order : List (List Item)) × (Alike (first_order (columns_of g) (ends_of g)) order) × (p ≡ picture_in g order)

pub kept : (g : PlainGraph) → IsKept g (picture_of g)
kept g = fewest-is (IsKept g) (picture_in g first) (map (picture_in g) (orders_after g four_sweeps first)) (first, alike-refl first, refl) (λ p m.
    let o = map-member (picture_in g) (orders_after g four_sweeps first) p m in
    (o.0, orders-alike g first four_sweeps first (alike-refl first) o.0 o.1, sym o.2))
  where
    first : List (List Item)
    first = first_order (columns_of g) (ends_of g)
