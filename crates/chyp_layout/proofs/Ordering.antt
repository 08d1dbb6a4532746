-- The first order, box by box and wire by wire.
use Rattle.std.proofs.Common.{ℕ, zero, suc, ◌+◌, ◌-◌, ◌<◌, ◌≤◌, ◌≡◌, ◌≢◌, Bool, true, false, cond, ◌&&◌, eqb, ltb, leb, max, List, [], ◌∷◌, ◌++◌, map, length, filter, take, replicate, Some, option_map, slice_get, slice_index, slice_set, ◌⊎◌, inl, inr, All, refl, sym, ◌∙◌, ap, ap₂, arith, append_assoc, eq-eqb, ne_eqb}
use Rattle.std.specs.List.{enumerate_from, range_with_len}
use Rattle.std.proofs.Math.ListN.{length-set}
use Rattle.std.proofs.lemmas.Bool.{and_from, and_left, and_right, cases_eq, cases_lt, le-leb, le-ltb, lt-leb, lt-ltb}
use Rattle.std.proofs.lemmas.List.{length-map, map-append}
use Rattle.chyp_term.proofs.Closure.{get-index}
use Rattle.chyp_term.proofs.Permuted.{get-map}
use Rattle.chyp_term.proofs.Positions.{slice_get-length}
use Rattle.chyp_term.proofs.Members.{Member}
use Rattle.chyp_term.proofs.Slices.{get-set_other, get-set_same}
use Rattle.chyp_layout.specs.Columns.{end_column, greatest}
use Rattle.chyp_layout.specs.Order.{AreExtended, bends_in, boxes_in, first_order, is_between}
use Rattle.chyp_layout.specs.declared.ends.Ends.{Ends}
use Rattle.chyp_layout.specs.declared.item.Item.{Item}
use Rattle.chyp_layout.specs.declared.item.Item.TheVariants.{Box, Wire}
use Rattle.chyp_layout.proofs.Lists.{enumerate-take, filter-push}
use Rattle.chyp_layout.proofs.Numbers.{same-items}

-- ## lists over numbers in order

range-above : (a n c : ℕ) → Member c (range_with_len a n) → a ≤ c
range-above a zero c m = absurd m
range-above a (suc n) c (inl e) = omega arith
range-above a (suc n) c (inr m) = let h = range-above (a + 1) n c m in omega arith

pub length-range : (a n : ℕ) → length (range_with_len a n) ≡ n
length-range a zero = refl
length-range a (suc n) = ap suc (length-range (a + 1) n)

pub get-range : (a n j : ℕ) → j < n → slice_get (range_with_len a n) j ≡ Some (a + j)
get-range a zero j h = absurd (omega arith)
get-range a (suc n) zero h = let e : a ≡ a + 0 = omega arith in ap (λ x. Some x) e
get-range a (suc n) (suc j) h = let e : a + 1 + j ≡ a + suc j = omega arith in get-range (a + 1) n j (omega arith) ∙ ap (λ x. Some x) e

pub get-map-range : {A : Type 0} (f : ℕ → A) (a n j : ℕ) → j < n → slice_get (map f (range_with_len a n)) j ≡ Some (f (a + j))
get-map-range f a n j h = get-map f (range_with_len a n) j ∙ ap (option_map f) (get-range a n j h)

map-on_range : {A : Type 0} (f g : ℕ → A) (a n : ℕ) → ((c : ℕ) → a ≤ c → f c ≡ g c) → map f (range_with_len a n) ≡ map g (range_with_len a n)
map-on_range f g a zero h = refl
map-on_range f g a (suc n) h = ap₂ (λ x l. x ∷ l) (h a (omega arith)) (map-on_range f g (a + 1) n (λ c l. h c (omega arith)))

pub set-map-range : {A : Type 0} (f g : ℕ → A) (a n j : ℕ) (v : A) → j < n → v ≡ g (a + j) → ((c : ℕ) → c ≢ a + j → f c ≡ g c)
    → slice_set (map f (range_with_len a n)) j v ≡ map g (range_with_len a n)
set-map-range f g a zero j v l e h = absurd (omega arith)
set-map-range f g a (suc n) zero v l e h = let z : a + 0 ≡ a = omega arith in ap₂ (λ x l. x ∷ l) (e ∙ ap g z) (map-on_range f g (a + 1) n (λ c m. h c (λ q. absurd (omega arith))))
set-map-range f g a (suc n) (suc j) v l e h =
    let z : a + suc j ≡ a + 1 + j = omega arith in
    ap₂ (λ x l. x ∷ l) (h a (λ q. absurd (omega arith))) (set-map-range f g (a + 1) n j v (omega arith) (e ∙ ap g z) (λ c m. h c (λ q. m (q ∙ z))))

-- ## boxes

boxes-step : (columns : List ℕ) (k column c : ℕ) → slice_get columns k ≡ Some column → boxes_in (take (k + 1) columns) c ≡ boxes_in (take k columns) c ++ cond (eqb column c) (Box k ∷ []) []
boxes-step columns k column c h =
    ap (λ l. map (λ (p : ℕ × ℕ). Box p.0) (filter (λ p. eqb p.1 c) l)) (enumerate-take columns k column h)
    ∙ ap (map (λ (p : ℕ × ℕ). Box p.0)) (filter-push (λ p. eqb p.1 c) (enumerate_from 0 (take k columns)) (k, column))
    ∙ map-append (λ (p : ℕ × ℕ). Box p.0) (filter (λ p. eqb p.1 c) (enumerate_from 0 (take k columns))) (cond (eqb column c) ((k, column) ∷ []) [])
    ∙ ap (λ l. boxes_in (take k columns) c ++ l) (go (eqb column c))
  where
    go : (b : Bool) → map (λ (p : ℕ × ℕ). Box p.0) (cond b ((k, column) ∷ []) []) ≡ cond b (Box k ∷ []) []
    go true = refl
    go false = refl

append-none : {A : Type 0} (xs : List A) → xs ++ [] ≡ xs
append-none [] = refl
append-none (x ∷ xs) = ap (λ l. x ∷ l) (append-none xs)

pub boxes-none : (n : ℕ) (order : List (List Item)) → order ≡ replicate n [] → order ≡ map (boxes_in []) (range_with_len 1 n)
boxes-none n order e = e ∙ go 1 n
  where
    go : (a n : ℕ) → replicate n [] ≡ map (boxes_in []) (range_with_len a n)
    go a zero = refl
    go a (suc n) = ap (λ l. [] ∷ l) (go (a + 1) n)

pub boxes-more : (columns : List ℕ) (last k column : ℕ) (order : List (List Item)) (old new : List Item) → slice_get columns k ≡ Some column → 0 < column → column ≤ last
    → order ≡ map (boxes_in (take k columns)) (range_with_len 1 last)
    → slice_get order (column - 1) ≡ Some old → new ≡ old ++ Box k ∷ [] → slice_set order (column - 1) new ≡ map (boxes_in (take (k + 1) columns)) (range_with_len 1 last)
boxes-more columns last k column order old new h low high e g n =
    ap (λ l. slice_set l (column - 1) new) e
    ∙ set-map-range (boxes_in (take k columns)) (boxes_in (take (k + 1) columns)) 1 last (column - 1) new (omega arith) value other
  where
    at : 1 + (column - 1) ≡ column
    at = omega arith

    was : old ≡ boxes_in (take k columns) column
    was = let q : Some old ≡ Some (boxes_in (take k columns) (1 + (column - 1))) = sym g ∙ ap (λ l. slice_get l (column - 1)) e
        ∙ get-map-range (boxes_in (take k columns)) 1 last (column - 1) (omega arith) in
        let r : old ≡ boxes_in (take k columns) (1 + (column - 1)) = cc in r ∙ ap (boxes_in (take k columns)) at

    value : new ≡ boxes_in (take (k + 1) columns) (1 + (column - 1))
    value = n ∙ ap (λ l. l ++ Box k ∷ []) was ∙ ap (λ b. boxes_in (take k columns) column ++ cond b (Box k ∷ []) []) (sym (eq-eqb column column refl))
        ∙ sym (boxes-step columns k column column h) ∙ ap (boxes_in (take (k + 1) columns)) (sym at)

    other : (c : ℕ) → c ≢ 1 + (column - 1) → boxes_in (take k columns) c ≡ boxes_in (take (k + 1) columns) c
    other c m = sym (boxes-step columns k column c h ∙ ap (λ b. boxes_in (take k columns) c ++ cond b (Box k ∷ []) []) (ne_eqb column c (λ q. m (sym q ∙ sym at)))
        ∙ append-none (boxes_in (take k columns) c))

-- ## bends

pub extended-none : {A : Type 0} (item : ℕ → A) (from : ℕ) (order : List (List A)) → AreExtended item from from order order
extended-none item from order = record {
  size = refl;
  at = λ j items h. h ∙ ap (λ x. Some x) (sym (ap (λ b. items ++ cond b (item j ∷ []) []) (go j (cases_lt j from)) ∙ append-none items));
}
  where
    go : (j : ℕ) → (j < from) ⊎ (from ≤ j) → leb from j && ltb j from ≡ false
    go j (inl a) = and_left (leb from j) (ltb j from) (lt-leb from j a)
    go j (inr a) = and_right (leb from j) (ltb j from) (le-ltb j from a)

pub extended-more : {A : Type 0} (item : ℕ → A) (from to : ℕ) (before after : List (List A)) (old new : List A) → from ≤ to → AreExtended item from to before after
    → slice_get after to ≡ Some old → new ≡ old ++ item to ∷ []
    → AreExtended item from (to + 1) before (slice_set after to new)
extended-more {A} item from to before after old new l e g n = record {
  size = length-set after to new ∙ e.size;
  at = λ j items h. at j items h (cases_eq j to);
}
  where
    room : to < length after
    room = slice_get-length after to old g

    at : (j : ℕ) (items : List A) → slice_get before j ≡ Some items → (j ≡ to) ⊎ (j ≢ to)
        → slice_get (slice_set after to new) j ≡ Some (items ++ cond (leb from j && ltb j (to + 1)) (item j ∷ []) [])
    at j items h (inl q) =
        let a : slice_get (slice_set after to new) j ≡ Some new = ap (slice_get (slice_set after to new)) q ∙ get-set_same after to new room in
        let b : Some old ≡ Some (items ++ cond (leb from j && ltb j to) (item j ∷ []) []) = sym g ∙ ap (slice_get after) (sym q) ∙ e.at j items h in
        let o : old ≡ items ++ cond (leb from j && ltb j to) (item j ∷ []) [] = cc in
        let f : leb from j && ltb j to ≡ false = and_right (leb from j) (ltb j to) (le-ltb j to (omega arith)) in
        let t : leb from j && ltb j (to + 1) ≡ true = and_from (leb from j) (ltb j (to + 1)) (le-leb from j (omega arith)) (lt-ltb j (to + 1) (omega arith)) in
        a ∙ ap (λ x. Some x) (n ∙ ap (λ i. old ++ item i ∷ []) (sym q) ∙ ap (λ l. l ++ item j ∷ []) (o ∙ ap (λ b. items ++ cond b (item j ∷ []) []) f ∙ append-none items)
        ∙ ap (λ b. items ++ cond b (item j ∷ []) []) (sym t))
    at j items h (inr q) = get-set_other after to j new q ∙ e.at j items h ∙ ap (λ b. Some (items ++ cond (leb from j && b) (item j ∷ []) [])) (same (cases_lt j to))
      where
        same : (j < to) ⊎ (to ≤ j) → ltb j to ≡ ltb j (to + 1)
        same (inl a) = lt-ltb j to a ∙ sym (lt-ltb j (to + 1) (omega arith))
        same (inr a) = le-ltb j to a ∙ sym (le-ltb j (to + 1) (omega arith))

-- the last place that was reached is the end, or there was none to reach
pub extended-all : {A : Type 0} (item : ℕ → A) (from to end : ℕ) (before after : List (List A)) → end ≤ to → to ≤ max from end → AreExtended item from to before after
    → AreExtended item from end before after
extended-all item from to end before after l h e = record {
  size = e.size;
  at = λ j items g. e.at j items g ∙ ap (λ b. Some (items ++ cond b (item j ∷ []) [])) (same j (cases_lt j from));
}
  where
    same : (j : ℕ) → (j < from) ⊎ (from ≤ j) → leb from j && ltb j to ≡ leb from j && ltb j end
    same j (inl a) = and_left (leb from j) (ltb j to) (lt-leb from j a) ∙ sym (and_left (leb from j) (ltb j end) (lt-leb from j a))
    same j (inr a) = ap (λ b. leb from j && b) (go (cases_lt j end))
      where
        go : (j < end) ⊎ (end ≤ j) → ltb j to ≡ ltb j end
        go (inl b) = lt-ltb j to (omega arith) ∙ sym (lt-ltb j end b)
        go (inr b) = le-ltb j to (omega arith) ∙ sym (le-ltb j end b)

-- the places at which a wire bends
between-is : (from to j : ℕ) → leb from j && ltb j (to - 1) ≡ ltb from (1 + j) && ltb (1 + j) to
between-is from to j = ap₂ (λ a b. a && b) (low (cases_lt j from)) (high (cases_lt (1 + j) to))
  where
    low : (j < from) ⊎ (from ≤ j) → leb from j ≡ ltb from (1 + j)
    low (inl a) = lt-leb from j a ∙ sym (le-ltb from (1 + j) (omega arith))
    low (inr a) = le-leb from j a ∙ sym (lt-ltb from (1 + j) (omega arith))

    high : (1 + j < to) ⊎ (to ≤ 1 + j) → ltb j (to - 1) ≡ ltb (1 + j) to
    high (inl a) = lt-ltb j (to - 1) (omega arith) ∙ sym (lt-ltb (1 + j) to a)
    high (inr a) = le-ltb j (to - 1) (omega arith) ∙ sym (le-ltb (1 + j) to a)

bends-step : (columns : List ℕ) (ends : List Ends) (w : ℕ) (x : Ends) (c : ℕ) → slice_get ends w ≡ Some x
    → bends_in columns (take (w + 1) ends) c ≡ bends_in columns (take w ends) c ++ cond (is_between columns c x) (Wire w ∷ []) []
bends-step columns ends w x c h =
    ap (λ l. map (λ (p : ℕ × Ends). Wire p.0) (filter (λ p. is_between columns c p.1) l)) (enumerate-take ends w x h)
    ∙ ap (map (λ (p : ℕ × Ends). Wire p.0)) (filter-push (λ p. is_between columns c p.1) (enumerate_from 0 (take w ends)) (w, x))
    ∙ map-append (λ (p : ℕ × Ends). Wire p.0) (filter (λ p. is_between columns c p.1) (enumerate_from 0 (take w ends))) (cond (is_between columns c x) ((w, x) ∷ []) [])
    ∙ ap (λ l. bends_in columns (take w ends) c ++ l) (go (is_between columns c x))
  where
    go : (b : Bool) → map (λ (p : ℕ × Ends). Wire p.0) (cond b ((w, x) ∷ []) []) ≡ cond b (Wire w ∷ []) []
    go true = refl
    go false = refl

pub bends-more : (columns : List ℕ) (ends : List Ends) (w : ℕ) (x : Ends) (before after : List (List Item)) → slice_get ends w ≡ Some x → before ≡ first_order columns (take w ends)
    → AreExtended (λ _. Wire w) (end_column columns x.from) (end_column columns x.to - 1) before after → after ≡ first_order columns (take (w + 1) ends)
bends-more columns ends w x before after h e t = same-items after (first_order columns (take (w + 1) ends)) (t.size ∙ size) at
  where
    n : ℕ
    n = greatest columns

    was : ℕ → List Item
    was c = boxes_in columns c ++ bends_in columns (take w ends) c

    is : ℕ → List Item
    is c = boxes_in columns c ++ bends_in columns (take (w + 1) ends) c

    size : length before ≡ length (map is (range_with_len 1 n))
    size = ap length e ∙ length-map (range_with_len 1 n) was ∙ sym (length-map (range_with_len 1 n) is)

    few : (j : ℕ) (y : List Item) → slice_get (map is (range_with_len 1 n)) j ≡ Some y → j < n
    few j y q = let l = slice_get-length (map is (range_with_len 1 n)) j y q in let a = length-map (range_with_len 1 n) is in let b = length-range 1 n in omega arith

    at : (j : ℕ) (a y : List Item) → slice_get after j ≡ Some a → slice_get (map is (range_with_len 1 n)) j ≡ Some y → a ≡ y
    at j a y p q =
        let l = few j y q in
        let b : slice_get before j ≡ Some (was (1 + j)) = ap (λ o. slice_get o j) e ∙ get-map-range was 1 n j l in
        let r : Some a ≡ Some (was (1 + j) ++ cond (leb (end_column columns x.from) j && ltb j (end_column columns x.to - 1)) (Wire w ∷ []) []) = sym p ∙ t.at j (was (1 + j)) b in
        let s : Some y ≡ Some (is (1 + j)) = sym q ∙ get-map-range is 1 n j l in
        let u : a ≡ was (1 + j) ++ cond (leb (end_column columns x.from) j && ltb j (end_column columns x.to - 1)) (Wire w ∷ []) [] = cc in
        let v : y ≡ is (1 + j) = cc in
        u ∙ ap (λ d. was (1 + j) ++ cond d (Wire w ∷ []) []) (between-is (end_column columns x.from) (end_column columns x.to) j)
        ∙ append_assoc (boxes_in columns (1 + j)) (bends_in columns (take w ends) (1 + j)) (cond (is_between columns (1 + j) x) (Wire w ∷ []) [])
        ∙ ap (λ l. boxes_in columns (1 + j) ++ l) (sym (bends-step columns ends w x (1 + j) h)) ∙ sym v

-- how many columns there are
pub length-first : (columns : List ℕ) (ends : List Ends) → length (first_order columns ends) ≡ greatest columns
length-first columns ends = length-map (range_with_len 1 (greatest columns)) (λ c. boxes_in columns c ++ bends_in columns ends c) ∙ length-range 1 (greatest columns)

-- a column that is read from a list
pub column-at : (cs columns : List ℕ) (k : ℕ) → cs ≡ columns → k < length cs → All (λ n. (0 < n) × (n ≤ greatest columns)) columns
    → (slice_get columns k ≡ Some (slice_index cs k)) × (0 < slice_index cs k) × (slice_index cs k ≤ greatest columns)
column-at cs columns k e l a =
    let f = ap length e in
    let h = a k 0 (omega arith) in
    let i = ap (λ l. slice_index l k) e in
    (ap (λ l. slice_get l k) (sym e) ∙ get-index cs k l, let z = h.0 in omega arith, let z = h.1 in omega arith)

pub length-boxes : (columns : List ℕ) (n : ℕ) (order : List (List Item)) → order ≡ map (boxes_in columns) (range_with_len 1 n) → length order ≡ n
length-boxes columns n order e = ap length e ∙ length-map (range_with_len 1 n) (boxes_in columns) ∙ length-range 1 n
