-- Items with their spots, one by one.
use Rattle.std.proofs.Common.{ℕ, zero, suc, ◌+◌, ◌*◌, ◌<◌, ◌≤◌, ◌≡◌, ◌≢◌, Bool, true, false, cond, eqb, List, [], ◌∷◌, ◌++◌, map, length, filter, take, replicate, Some, slice_get, slice_set, ◌⊎◌, inl, inr, All, refl, sym, ◌∙◌, ap, ap₂, subst, arith, append_assoc, eq-eqb, ne_eqb}
use Rattle.std.specs.List.{range_with_len}
use Rattle.std.proofs.lemmas.List.{length-map, length-take, map-append}
use Rattle.std.proofs.lemmas.List.Sums.{fold_push}
use Rattle.chyp_term.proofs.Permuted.{found}
use Rattle.chyp_graph.specs.PlainGraph.{Edge, PlainGraph}
use Rattle.chyp_graph.specs.Validity.{IsValid}
use Rattle.chyp_term.proofs.Members.{Member, member-split, All-from_get_members}
use Rattle.chyp_term.proofs.Slices.{take-suc}
use Rattle.chyp_picture.specs.declared.point.Point.{Point}
use Rattle.chyp_layout.specs.Side.{AreItems, IsItem, ports_on}
use Rattle.chyp_layout.specs.Spots.{IsBoxBelow, IsWireBelow, bend_at, bends_on, box_spot, edge_height, height_of, is_box, is_wire, nowhere, placed_from, placed_in}
use Rattle.chyp_layout.specs.declared.item.Item.{Item}
use Rattle.chyp_layout.specs.declared.item.Item.TheVariants.{Box, Wire}
use Rattle.chyp_layout.specs.declared.placed.Placed.{Placed}
use Rattle.chyp_layout.specs.declared.side.Side.TheVariants.{Left, Right}
use Rattle.chyp_layout.specs.declared.spot.Spot.{Spot}
use Rattle.chyp_layout.proofs.Lists.{filter-push}
use Rattle.chyp_layout.proofs.Ordering.{get-map-range, length-range, set-map-range}
use Rattle.chyp_layout.proofs.Sweeping.{all-member, wires-few}

-- an edge has fewer ports than the graph has wires
pub edge-few : (g : PlainGraph) → IsValid g → length g.wires < 2147483648 → (k : ℕ) (e : Edge) → slice_get g.edges k ≡ Some e → k < length g.edges
    → (length e.sources < 2147483648) × (length e.targets < 2147483648)
edge-few g v few k e q l = (
  subst (λ o. length (ports_on Left o) < 2147483648) q (wires-few g v few Left (Box k) l),
  subst (λ o. length (ports_on Right o) < 2147483648) q (wires-few g v few Right (Box k) l),
)

pub height-few : (g : PlainGraph) → IsValid g → length g.wires < 2147483648 → (t : Item) → IsItem g t → height_of g t ≤ 42949672960
height-few g v few (Wire w) h = omega arith
height-few g v few (Box k) h =
    let e = found g.edges k h in
    let f = edge-few g v few k e.0 e.1 h in
    let a = f.0 in
    let b = f.1 in
    subst (λ o. edge_height o ≤ 42949672960) (sym e.1) (omega arith)

-- ## a column

-- the top of what stands below the items
abbrev pub top_after : PlainGraph → ℕ → List Item → ℕ
top_after g top [] = top
top_after g top (t ∷ ts) = top_after g (top + height_of g t + 20) ts

top-push : (g : PlainGraph) (top : ℕ) (ts : List Item) (t : Item) → top_after g top (ts ++ t ∷ []) ≡ top_after g top ts + height_of g t + 20
top-push g top [] t = refl
top-push g top (u ∷ ts) t = top-push g (top + height_of g u + 20) ts t

pub top-more : (g : PlainGraph) (top : ℕ) (items : List Item) (i : ℕ) (t : Item) → slice_get items i ≡ Some t
    → top_after g top (take i items) + height_of g t + 20 ≡ top_after g top (take (i + 1) items)
top-more g top items i t h = sym (ap (top_after g top) (take-suc items i t h) ∙ top-push g top (take i items) t)

placed-push : (g : PlainGraph) (c place top : ℕ) (ts : List Item) (t : Item)
    → placed_in g c place top (ts ++ t ∷ []) ≡ placed_in g c place top ts ++ record { item = t; spot = record { column = c; place = place + length ts; top = top_after g top ts } } ∷ []
placed-push g c place top [] t = let e : place ≡ place + 0 = omega arith in ap (λ p. record { item = t; spot = record { column = c; place = p; top = top } } ∷ []) e
placed-push g c place top (u ∷ ts) t =
    let e : place + 1 + length ts ≡ place + suc (length ts) = omega arith in
    ap (λ l. record { item = u; spot = record { column = c; place = place; top = top } } ∷ l)
    (placed-push g c (place + 1) (top + height_of g u + 20) ts t
    ∙ ap (λ p. placed_in g c (place + 1) (top + height_of g u + 20) ts ++ record { item = t; spot = record { column = c; place = p; top = top_after g (top + height_of g u + 20) ts } } ∷ []) e)

pub placed-more : (g : PlainGraph) (c : ℕ) (items : List Item) (i : ℕ) (t : Item) (top : ℕ) (start before after : List Placed) → slice_get items i ≡ Some t → i < length items
    → before ≡ start ++ placed_in g c 0 20 (take i items) → top ≡ top_after g 20 (take i items)
    → after ≡ before ++ record { item = t; spot = record { column = c; place = i; top = top } } ∷ [] → after ≡ start ++ placed_in g c 0 20 (take (i + 1) items)
placed-more g c items i t top start before after h l e q n =
    let f : i ≡ 0 + length (take i items) = omega (arith, length-take i items) in
    n ∙ ap₂ (λ b p. b ++ p ∷ []) e (ap₂ (λ p y. record { item = t; spot = record { column = c; place = p; top = y } }) f q)
    ∙ append_assoc start (placed_in g c 0 20 (take i items)) (record { item = t; spot = record { column = c; place = 0 + length (take i items); top = top_after g 20 (take i items) } } ∷ [])
    ∙ ap (λ x. start ++ x) (sym (ap (placed_in g c 0 20) (take-suc items i t h) ∙ placed-push g c 0 20 (take i items) t))

-- ## all columns

columns-push : (g : PlainGraph) (c : ℕ) (order : List (List Item)) (items : List Item) → placed_from g c (order ++ items ∷ []) ≡ placed_from g c order ++ placed_in g (c + length order) 0 20 items
columns-push g c [] items = let e : c ≡ c + 0 = omega arith in append-none (placed_in g c 0 20 items) ∙ ap (λ k. placed_in g k 0 20 items) e
  where
    append-none : (xs : List Placed) → xs ++ [] ≡ xs
    append-none [] = refl
    append-none (x ∷ xs) = ap (λ l. x ∷ l) (append-none xs)
columns-push g c (d ∷ order) items =
    let e : c + 1 + length order ≡ c + suc (length order) = omega arith in
    ap (λ l. placed_in g c 0 20 d ++ l) (columns-push g (c + 1) order items ∙ ap (λ k. placed_from g (c + 1) order ++ placed_in g k 0 20 items) e)
    ∙ sym (append_assoc (placed_in g c 0 20 d) (placed_from g (c + 1) order) (placed_in g (c + suc (length order)) 0 20 items))

pub columns-more : (g : PlainGraph) (order : List (List Item)) (i column : ℕ) (items : List Item) (before after : List Placed) → slice_get order i ≡ Some items → i < length order
    → column ≡ i + 1 → before ≡ placed_from g 1 (take i order)
    → after ≡ before ++ placed_in g column 0 20 items → after ≡ placed_from g 1 (take (i + 1) order)
columns-more g order i column items before after h l c e n =
    let f : i + 1 ≡ 1 + length (take i order) = omega (arith, length-take i order) in
    n ∙ ap₂ (λ b k. b ++ placed_in g k 0 20 items) e (c ∙ f) ∙ sym (ap (placed_from g 1) (take-suc order i items h) ∙ columns-push g 1 (take i order) items)

-- ## what is placed

in-member : (g : PlainGraph) → IsValid g → length g.wires < 2147483648 → (c place top : ℕ) (items : List Item) → ((t : Item) → Member t items → IsItem g t) → (p : Placed)
    → Member p (placed_in g c place top items)
    → (IsItem g p.item) × (p.spot.top ≤ top + length items * 42949672980)
in-member g v few c place top [] a p m = absurd m
in-member g v few c place top (t ∷ ts) a p (inl e) = (subst (IsItem g) (ap (λ p. p.item) e) (a t (inl refl)), let q = ap (λ p. p.spot.top) e in omega arith)
in-member g v few c place top (t ∷ ts) a p (inr m) =
    let r = in-member g v few c (place + 1) (top + height_of g t + 20) ts (λ u n. a u (inr n)) p m in
    let h = height-few g v few t (a t (inl refl)) in
    (r.0, let s = r.1 in omega arith)

from-member : (g : PlainGraph) → IsValid g → length g.wires < 2147483648 → (c : ℕ) (order : List (List Item)) → ((items : List Item) → Member items order → AreItems g items)
    → (p : Placed) → Member p (placed_from g c order) → (IsItem g p.item) × (p.spot.top < 9223372036854775808)
from-member g v few c [] a p m = absurd m
from-member g v few c (items ∷ order) a p m = go (member-split (placed_in g c 0 20 items) (placed_from g (c + 1) order) p m) (from-member g v few (c + 1) order (λ d n. a d (inr n)) p)
  where
    go : (Member p (placed_in g c 0 20 items)) ⊎ (Member p (placed_from g (c + 1) order)) → (Member p (placed_from g (c + 1) order)
        → (IsItem g p.item) × (p.spot.top < 9223372036854775808)) → (IsItem g p.item) × (p.spot.top < 9223372036854775808)
    go (inl n) ih =
        let b = a items (inl refl) in
        let f = b.few in
        let r = in-member g v few c 0 20 items (λ t k. all-member (IsItem g) items t b.each k) p n in
        (r.0, let s = r.1 in omega arith)
    go (inr n) ih = ih n

module _ (g : PlainGraph) (v : IsValid g) (few : length g.wires < 2147483648) (order : List (List Item)) (a : All (AreItems g) order) where
  pub member : (p : Placed) → Member p (placed_from g 1 order) → (IsItem g p.item) × (p.spot.top < 9223372036854775808)
  member p m = from-member g v few 1 order (λ items n. all-member (AreItems g) order items a n) p m

  pub placed-boxes : All (λ p. IsBoxBelow (length g.edges) p.item) (placed_from g 1 order)
  placed-boxes = All-from_get_members {P = λ p. IsBoxBelow (length g.edges) p.item} (placed_from g 1 order) (λ p m. go p.item (member p m).0)
    where
      go : (t : Item) → IsItem g t → IsBoxBelow (length g.edges) t
      go (Box k) h = h
      go (Wire w) h = tt

  pub placed-wires : All (λ p. IsWireBelow (length g.wires) p.item × (p.spot.top < 9223372036854775808)) (placed_from g 1 order)
  placed-wires = All-from_get_members {P = λ p. IsWireBelow (length g.wires) p.item × (p.spot.top < 9223372036854775808)} (placed_from g 1 order) (λ p m. (go p.item (member p m).0, (member p m).1))
    where
      go : (t : Item) → IsItem g t → IsWireBelow (length g.wires) t
      go (Box k) h = tt
      go (Wire w) h = h

-- ## the tables

box-push : (placed : List Placed) (p : Placed) (k : ℕ) → box_spot (placed ++ p ∷ []) k ≡ cond (is_box k p.item) p.spot (box_spot placed k)
box-push placed p k = fold_push (λ spot p. cond (is_box k p.item) p.spot spot) nowhere placed p

pub box-written : (placed : List Placed) (i count k : ℕ) (p : Placed) (spots : List Spot) → slice_get placed i ≡ Some p → p.item ≡ Box k → k < count
    → spots ≡ map (box_spot (take i placed)) (range_with_len 0 count)
    → slice_set spots k p.spot ≡ map (box_spot (take (i + 1) placed)) (range_with_len 0 count)
box-written placed i count k p spots h b l e =
    ap (λ s. slice_set s k p.spot) e ∙ set-map-range (box_spot (take i placed)) (box_spot (take (i + 1) placed)) 0 count k p.spot l value other
  where
    next : (j : ℕ) → box_spot (take (i + 1) placed) j ≡ cond (eqb k j) p.spot (box_spot (take i placed) j)
    next j = ap (λ l. box_spot l j) (take-suc placed i p h) ∙ box-push (take i placed) p j ∙ ap (λ t. cond (is_box j t) p.spot (box_spot (take i placed) j)) b

    value : p.spot ≡ box_spot (take (i + 1) placed) (0 + k)
    value = let z : 0 + k ≡ k = omega arith in sym (ap (box_spot (take (i + 1) placed)) z ∙ next k ∙ ap (λ b. cond b p.spot (box_spot (take i placed) k)) (eq-eqb k k refl))

    other : (j : ℕ) → j ≢ 0 + k → box_spot (take i placed) j ≡ box_spot (take (i + 1) placed) j
    other j n = sym (next j ∙ ap (λ b. cond b p.spot (box_spot (take i placed) j)) (ne_eqb k j (λ q. n (let z : 0 + k ≡ k = omega arith in sym q ∙ sym z))))

map-same : {A : Type 0} (f g : ℕ → A) (xs : List ℕ) → ((x : ℕ) → f x ≡ g x) → map f xs ≡ map g xs
map-same f g [] h = refl
map-same f g (x ∷ xs) h = ap₂ (λ y l. y ∷ l) (h x) (map-same f g xs h)

pub box-kept : (placed : List Placed) (i count w : ℕ) (p : Placed) (spots : List Spot) → slice_get placed i ≡ Some p → p.item ≡ Wire w
    → spots ≡ map (box_spot (take i placed)) (range_with_len 0 count)
    → spots ≡ map (box_spot (take (i + 1) placed)) (range_with_len 0 count)
box-kept placed i count w p spots h b e = e ∙ map-same (box_spot (take i placed)) (box_spot (take (i + 1) placed)) (range_with_len 0 count) (λ j.
    sym (ap (λ l. box_spot l j) (take-suc placed i p h) ∙ box-push (take i placed) p j ∙ ap (λ t. cond (is_box j t) p.spot (box_spot (take i placed) j)) b))

bends-push : (placed : List Placed) (p : Placed) (w : ℕ) → bends_on (placed ++ p ∷ []) w ≡ bends_on placed w ++ cond (is_wire w p.item) (bend_at p ∷ []) []
bends-push placed p w =
    ap (map bend_at) (filter-push (λ p. is_wire w p.item) placed p) ∙ map-append bend_at (filter (λ p. is_wire w p.item) placed) (cond (is_wire w p.item) (p ∷ []) [])
    ∙ ap (λ l. bends_on placed w ++ l) (go (is_wire w p.item))
  where
    go : (b : Bool) → map bend_at (cond b (p ∷ []) []) ≡ cond b (bend_at p ∷ []) []
    go true = refl
    go false = refl

append-none : {A : Type 0} (xs : List A) → xs ++ [] ≡ xs
append-none [] = refl
append-none (x ∷ xs) = ap (λ l. x ∷ l) (append-none xs)

pub bend-written : (placed : List Placed) (i count w : ℕ) (p : Placed) (trails : List (List Point)) (old new : List Point) → slice_get placed i ≡ Some p → p.item ≡ Wire w → w < count
    → trails ≡ map (bends_on (take i placed)) (range_with_len 0 count)
    → slice_get trails w ≡ Some old → new ≡ old ++ bend_at p ∷ [] → slice_set trails w new ≡ map (bends_on (take (i + 1) placed)) (range_with_len 0 count)
bend-written placed i count w p trails old new h b l e q n =
    ap (λ s. slice_set s w new) e ∙ set-map-range (bends_on (take i placed)) (bends_on (take (i + 1) placed)) 0 count w new l value other
  where
    zero-left : 0 + w ≡ w
    zero-left = omega arith

    next : (j : ℕ) → bends_on (take (i + 1) placed) j ≡ bends_on (take i placed) j ++ cond (eqb w j) (bend_at p ∷ []) []
    next j = ap (λ l. bends_on l j) (take-suc placed i p h) ∙ bends-push (take i placed) p j ∙ ap (λ t. bends_on (take i placed) j ++ cond (is_wire j t) (bend_at p ∷ []) []) b

    was : old ≡ bends_on (take i placed) w
    was = let r : Some old ≡ Some (bends_on (take i placed) (0 + w)) = sym q ∙ ap (λ s. slice_get s w) e ∙ get-map-range (bends_on (take i placed)) 0 count w l in
        let s : old ≡ bends_on (take i placed) (0 + w) = cc in s ∙ ap (bends_on (take i placed)) zero-left

    value : new ≡ bends_on (take (i + 1) placed) (0 + w)
    value = n ∙ ap (λ l. l ++ bend_at p ∷ []) was ∙ sym (ap (bends_on (take (i + 1) placed)) zero-left ∙ next w
        ∙ ap (λ b. bends_on (take i placed) w ++ cond b (bend_at p ∷ []) []) (eq-eqb w w refl))

    other : (j : ℕ) → j ≢ 0 + w → bends_on (take i placed) j ≡ bends_on (take (i + 1) placed) j
    other j m = sym (next j ∙ ap (λ b. bends_on (take i placed) j ++ cond b (bend_at p ∷ []) []) (ne_eqb w j (λ q. m (sym q ∙ sym zero-left))) ∙ append-none (bends_on (take i placed) j))

pub bend-kept : (placed : List Placed) (i count k : ℕ) (p : Placed) (trails : List (List Point)) → slice_get placed i ≡ Some p → p.item ≡ Box k
    → trails ≡ map (bends_on (take i placed)) (range_with_len 0 count)
    → trails ≡ map (bends_on (take (i + 1) placed)) (range_with_len 0 count)
bend-kept placed i count k p trails h b e = e ∙ map-same (bends_on (take i placed)) (bends_on (take (i + 1) placed)) (range_with_len 0 count) (λ j.
    sym (ap (λ l. bends_on l j) (take-suc placed i p h) ∙ bends-push (take i placed) p j ∙ ap (λ t. bends_on (take i placed) j ++ cond (is_wire j t) (bend_at p ∷ []) []) b
    ∙ append-none (bends_on (take i placed) j)))

-- ## tables at the start

pub nothing : {A : Type 0} (f : ℕ → A) (x : A) (n : ℕ) (xs : List A) → ((j : ℕ) → f j ≡ x) → xs ≡ replicate n x → xs ≡ map f (range_with_len 0 n)
nothing {A} f x n xs h e = e ∙ go 0 n
  where
    go : (a n : ℕ) → replicate n x ≡ map f (range_with_len a n)
    go a zero = refl
    go a (suc n) = ap₂ (λ y l. y ∷ l) (sym (h a)) (go (a + 1) n)

pub length-table : {A : Type 0} (f : ℕ → A) (n : ℕ) (xs : List A) → xs ≡ map f (range_with_len 0 n) → length xs ≡ n
length-table f n xs e = ap length e ∙ length-map (range_with_len 0 n) f ∙ length-range 0 n
