-- The best of the orders, and what the first one has.
use Rattle.std.proofs.Common.{ℕ, zero, suc, ◌+◌, ◌<◌, ◌≤◌, ◌≡◌, Bool, true, false, cond, eqb, ltb, List, [], ◌∷◌, ◌++◌, map, length, filter, drop, reverse, Some, slice_get, ◌⊎◌, inl, inr, All, refl, sym, ◌∙◌, ap, ap₂, subst, arith, length-append}
use Rattle.std.specs.List.{enumerate_from, range_with_len, sum_by}
use Rattle.std.proofs.lemmas.Bool.{and_parts, ltb-true}
use Rattle.std.proofs.lemmas.List.{length-map}
use Rattle.std.proofs.lemmas.List.Sorted.{All-permutation, IsPermutation-reverse, length_permutation}
use Rattle.std.proofs.lemmas.List.Sums.{sum_by-cons}
use Rattle.chyp_graph.specs.PlainGraph.{PlainGraph}
use Rattle.chyp_term.proofs.Members.{Member, filter-member, map-member, member-split, All-from_get_members}
use Rattle.chyp_picture.specs.Crossings.{HasBox, crossings_of}
use Rattle.chyp_picture.specs.declared.end.End.{End}
use Rattle.chyp_picture.specs.declared.end.End.TheVariants.{Input, Output, Port}
use Rattle.chyp_picture.specs.declared.picture.Picture.{Picture}
use Rattle.chyp_layout.specs.Columns.{bend_count, end_column, greatest, point_count}
use Rattle.chyp_picture.specs.Crossings.{HasBoxes}
use Rattle.chyp_layout.specs.Ends.{from_of, to_of}
use Rattle.chyp_layout.specs.Order.{bends_in, boxes_in, first_order, is_between}
use Rattle.chyp_layout.specs.PictureOf.{IsPortOn, box_of, fewest, four_sweeps, line_of, orders_after, picture_in}
use Rattle.chyp_layout.specs.Side.{AreItems, IsItem, rim}
use Rattle.chyp_layout.specs.Spots.{placed_from}
use Rattle.chyp_layout.specs.Sweep.{sorted_column, sweep_of, swept}
use Rattle.chyp_layout.specs.declared.drawn.Drawn.{Drawn}
use Rattle.chyp_layout.specs.declared.ends.Ends.{Ends}
use Rattle.chyp_layout.specs.declared.item.Item.{Item}
use Rattle.chyp_layout.specs.declared.item.Item.TheVariants.{Box, Wire}
use Rattle.chyp_layout.specs.declared.side.Side.{Side}
use Rattle.chyp_layout.specs.declared.side.Side.TheVariants.{Left, Right}
use Rattle.chyp_layout.proofs.Drawing.{from-port_on, to-port_on}
use Rattle.chyp_layout.proofs.Sweeping.{length-enumerate, swept-items}

-- ## sweeps keep items

all-reverse : (g : PlainGraph) (order : List (List Item)) → All (AreItems g) order → All (AreItems g) (reverse order)
all-reverse g order a = All-permutation (AreItems g) order (reverse order) (IsPermutation-reverse order) a

length-reverse : {A : Type 0} (xs : List A) → length (reverse xs) ≡ length xs
length-reverse xs = length_permutation xs (reverse xs) (IsPermutation-reverse xs)

length-swept : (g : PlainGraph) (side : Side) (rim : List Item) (order : List (List Item)) → length (swept g side rim order) ≡ length order
length-swept g side rim [] = refl
length-swept g side rim (c ∷ order) = ap suc (length-swept g side (sorted_column g side rim c) order)

pub sweep-items : (g : PlainGraph) (side : Side) (order : List (List Item)) → All (AreItems g) order → All (AreItems g) (sweep_of g side order)
sweep-items g Left order a = swept-items g Left (rim g Left) order a
sweep-items g Right order a = all-reverse g (swept g Right (rim g Right) (reverse order)) (swept-items g Right (rim g Right) (reverse order) (all-reverse g order a))

pub length-sweep : (g : PlainGraph) (side : Side) (order : List (List Item)) → length (sweep_of g side order) ≡ length order
length-sweep g Left order = length-swept g Left (rim g Left) order
length-sweep g Right order = length-reverse (swept g Right (rim g Right) (reverse order)) ∙ length-swept g Right (rim g Right) (reverse order) ∙ length-reverse order

-- ## the first order

length-filter : {A : Type 0} (p : A → Bool) (xs : List A) → length (filter p xs) ≤ length xs
length-filter p [] = omega arith
length-filter {A} p (x ∷ xs) = go (p x) (length-filter p xs)
  where
    go : (b : Bool) → length (filter p xs) ≤ length xs → length (cond b (x ∷ filter p xs) (filter p xs)) ≤ suc (length xs)
    go true h = omega arith
    go false h = omega arith

numbers-below : {A : Type 0} (n : ℕ) (xs : List A) (p : ℕ × A) → Member p (enumerate_from n xs) → p.0 < n + length xs
numbers-below n [] p m = absurd m
numbers-below n (x ∷ xs) p (inl e) = let q = ap (λ p. p.0) e in omega arith
numbers-below n (x ∷ xs) p (inr m) = let h = numbers-below (n + 1) xs p m in omega arith

bends-few : (columns : List ℕ) (c n : ℕ) (ends : List Ends) → length (filter (λ p. is_between columns c p.1) (enumerate_from n ends)) ≤ sum_by (bend_count columns) ends
bends-few columns c n [] = omega arith
bends-few columns c n (x ∷ ends) = go (is_between columns c x) refl (bends-few columns c (n + 1) ends) (sum_by-cons (bend_count columns) x ends)
  where
    go : (b : Bool) → is_between columns c x ≡ b → length (filter (λ p. is_between columns c p.1) (enumerate_from (n + 1) ends)) ≤ sum_by (bend_count columns) ends
        → sum_by (bend_count columns) (x ∷ ends) ≡ bend_count columns x + sum_by (bend_count columns) ends
        → length (cond b ((n, x) ∷ filter (λ p. is_between columns c p.1) (enumerate_from (n + 1) ends)) (filter (λ p. is_between columns c p.1) (enumerate_from (n + 1) ends))) ≤ sum_by
        (bend_count columns) (x ∷ ends)
    go true e h s =
        let p = and_parts (ltb (end_column columns x.from) c) (ltb c (end_column columns x.to)) e in
        let a : end_column columns x.from < c = ltb-true (end_column columns x.from) c p.0 in
        let b : c < end_column columns x.to = ltb-true c (end_column columns x.to) p.1 in
        omega arith
    go false e h s = omega arith

pub first-items : (g : PlainGraph) (columns : List ℕ) (ends : List Ends) → length columns ≡ length g.edges → length ends ≡ length g.wires → point_count columns ends ≤ 65536
    → All (AreItems g) (first_order columns ends)
first-items g columns ends e w few = All-from_get_members {P = AreItems g} (first_order columns ends) (λ items m.
    let c = map-member (λ c. boxes_in columns c ++ bends_in columns ends c) (range_with_len 1 (greatest columns)) items m in
    subst (AreItems g) c.2 (column c.0))
  where
    boxes : ℕ → List (ℕ × ℕ)
    boxes c = filter (λ p. eqb p.1 c) (enumerate_from 0 columns)

    bends : ℕ → List (ℕ × Ends)
    bends c = filter (λ p. is_between columns c p.1) (enumerate_from 0 ends)

    item : (c : ℕ) (t : Item) → (Member t (boxes_in columns c)) ⊎ (Member t (bends_in columns ends c)) → IsItem g t
    item c t (inl m) =
        let p = map-member (λ (p : ℕ × ℕ). Box p.0) (boxes c) t m in
        let q = numbers-below 0 columns p.0 (filter-member (λ p. eqb p.1 c) (enumerate_from 0 columns) p.0 p.1).0 in
        let r : p.0.0 < length g.edges = omega arith in
        subst (IsItem g) p.2 r
    item c t (inr m) =
        let p = map-member (λ (p : ℕ × Ends). Wire p.0) (bends c) t m in
        let q = numbers-below 0 ends p.0 (filter-member (λ p. is_between columns c p.1) (enumerate_from 0 ends) p.0 p.1).0 in
        let r : p.0.0 < length g.wires = omega arith in
        subst (IsItem g) p.2 r

    column : (c : ℕ) → AreItems g (boxes_in columns c ++ bends_in columns ends c)
    column c = record {
      each = All-from_get_members {P = IsItem g} (boxes_in columns c ++ bends_in columns ends c) (λ t m. item c t (member-split (boxes_in columns c) (bends_in columns ends c) t m));
      few =
          let a = length-append (boxes_in columns c) (bends_in columns ends c) in
          let b = length-map (boxes c) (λ (p : ℕ × ℕ). Box p.0) in
          let d = length-map (bends c) (λ (p : ℕ × Ends). Wire p.0) in
          let f = length-filter (λ (p : ℕ × ℕ). eqb p.1 c) (enumerate_from 0 columns) in
          let h = length-enumerate 0 columns in
          let i = bends-few columns c 0 ends in
          omega arith;
    }

-- ## pictures whose crossings can be counted

has-box : (g : PlainGraph) (order : List (List Item)) (side : Side) (e : End) → IsPortOn g side e → HasBox (picture_in g order) e
has-box g order side (Input i) h = tt
has-box g order side (Output i) h = tt
has-box g order side (Port k i) h =
    let n = length-map (enumerate_from 0 g.edges) (λ p. box_of (placed_from g 1 order) p.0 p.1) in
    let m = length-enumerate 0 g.edges in
    let l = h.0 in
    omega arith

pub boxes-there : (g : PlainGraph) (order : List (List Item)) → All (HasBoxes (picture_in g order)) (picture_in g order).lines
boxes-there g order = All-from_get_members {P = HasBoxes (picture_in g order)} (picture_in g order).lines (λ l m.
    let p = map-member (λ p. line_of g (placed_from g 1 order) p.0 p.1) (enumerate_from 0 g.wires) l m in
    subst (HasBoxes (picture_in g order)) p.2 (record { from = has-box g order Right (from_of g p.0.0) (from-port_on g p.0.0); to = has-box g order Left (to_of g p.0.0) (to-port_on g p.0.0) }))

pub lines-few : (g : PlainGraph) (order : List (List Item)) → length (picture_in g order).lines ≡ length g.wires
lines-few g order = length-map (enumerate_from 0 g.wires) (λ p. line_of g (placed_from g 1 order) p.0 p.1) ∙ length-enumerate 0 g.wires

-- ## one sweep more

drop-get : {A : Type 0} (xs : List A) (i : ℕ) (x : A) → slice_get xs i ≡ Some x → drop i xs ≡ x ∷ drop (i + 1) xs
drop-get [] i x h = cc
drop-get (y ∷ xs) zero x h = let e : y ≡ x = cc in ap (λ z. z ∷ xs) e
drop-get (y ∷ xs) (suc i) x h = let e : suc (i + 1) ≡ suc i + 1 = omega arith in drop-get xs i x h ∙ ap (λ n. x ∷ drop n (y ∷ xs)) e

-- the best of a picture and of those after the sweeps that are left
abbrev pub best_of : PlainGraph → List Side → Picture → List (List Item) → Picture
best_of g sides best order = fewest best (map (picture_in g) (orders_after g sides order))

pub best-more : (g : PlainGraph) (sides : List Side) (i : ℕ) (side : Side) (best : Picture) (order : List (List Item)) (all : Picture) → slice_get sides i ≡ Some side
    → best_of g (drop i sides) best order ≡ all
    → best_of g (drop (i + 1) sides) (cond (ltb (crossings_of (picture_in g (sweep_of g side order))) (crossings_of best)) (picture_in g (sweep_of g side order)) best) (sweep_of g side order) ≡ all
best-more g sides i side best order all h e = sym (ap (λ s. best_of g s best order) (drop-get sides i side h)) ∙ e

counted : (b : Bool) (x y : Drawn) → x.crossings ≡ crossings_of x.picture → y.crossings ≡ crossings_of y.picture → (cond b x y).crossings ≡ crossings_of (cond b x y).picture
counted true x y p q = p
counted false x y p q = q

chosen : (b : Bool) (x y : Drawn) → (cond b x y).picture ≡ cond b x.picture y.picture
chosen true x y = refl
chosen false x y = refl

pub best-step : (g : PlainGraph) (i : ℕ) (side : Side) (order next : List (List Item)) (best new result : Drawn) (all : Picture) → slice_get four_sweeps i ≡ Some side
    → next ≡ sweep_of g side order → new.picture ≡ picture_in g next
    → new.crossings ≡ crossings_of new.picture → best.crossings ≡ crossings_of best.picture → result ≡ cond (ltb new.crossings best.crossings) new best
    → best_of g (drop i four_sweeps) best.picture order ≡ all
    → (result.crossings ≡ crossings_of result.picture) × (best_of g (drop (i + 1) four_sweeps) result.picture next ≡ all)
best-step g i side order next best new result all h e p c d r a = (
  subst (λ x. x.crossings ≡ crossings_of x.picture) (sym r) (counted (ltb new.crossings best.crossings) new best c d),
  ap₂ (λ (q : Picture) (o : List (List Item)). best_of g (drop (i + 1) four_sweeps) q o) picture e ∙ best-more g four_sweeps i side best.picture order all h a,
)
  where
    picture : result.picture ≡ cond (ltb (crossings_of (picture_in g (sweep_of g side order))) (crossings_of best.picture)) (picture_in g (sweep_of g side order)) best.picture
    picture =
        ap (λ (x : Drawn). x.picture) r ∙ chosen (ltb new.crossings best.crossings) new best
        ∙ ap₂ (λ (x y : ℕ). cond (ltb x y) new.picture best.picture) c d
        ∙ ap (λ (q : Picture). cond (ltb (crossings_of q) (crossings_of best.picture)) q best.picture) (p ∙ ap (picture_in g) e)
