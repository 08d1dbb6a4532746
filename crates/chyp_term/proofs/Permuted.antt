-- How lists are permuted: lengths, items, and permuting twice, side by side and by blocks.
use Rattle.std.proofs.Common.{[], ℕ, zero, suc, ◌+◌, ◌<◌, ◌≤◌, ◌≡◌, List, ◌∷◌, ◌++◌, map, length, take, drop, Option, Some, None, option_map, slice_get, refl, sym, ◌∙◌, ap, ap₂, arith, add-zero}
use Rattle.std.proofs.Common.{zero-add, add-suc, suc-add}
use Rattle.std.proofs.lemmas.List.Elements.{filter_map-append}
use Rattle.std.specs.List.{cons_option}
use Rattle.chyp_term.specs.Perm.{permuted, count_from, shifted, swapped}

-- each place of p is below n
abbrev pub Under : ℕ → List ℕ → Type 0
Under n [] = Unit {0}
Under n (k ∷ p) = (k < n) × Under n p

-- an item stands at each place below the length
pub found : {A : Type 0} (xs : List A) (k : ℕ) → k < length xs → (x : A) × (slice_get xs k ≡ Some x)
found [] k h = absurd (omega arith)
found (x ∷ xs) zero h = (x, refl)
found (x ∷ xs) (suc k) h = found xs k (omega arith)

-- as many items as places
pub length-permuted : {A : Type 0} (xs : List A) (p : List ℕ) → Under (length xs) p → length (permuted xs p) ≡ length p
length-permuted xs [] u = refl
length-permuted xs (k ∷ p) u = let f = found xs k u.0 in rw f.1 (ap suc (length-permuted xs p u.1))

abbrev pub get_option : {A : Type 0} → List A → Option ℕ → Option A
get_option xs None = None
get_option xs (Some k) = slice_get xs k

-- the item at k is the one at the place that p has there
pub get-permuted : {A : Type 0} (xs : List A) (p : List ℕ) → Under (length xs) p → (k : ℕ) → slice_get (permuted xs p) k ≡ get_option xs (slice_get p k)
get-permuted xs [] u k = refl
get-permuted xs (j ∷ p) u zero = let f = found xs j u.0 in rw f.1 refl
get-permuted xs (j ∷ p) u (suc k) = let f = found xs j u.0 in rw f.1 (get-permuted xs p u.1 k)

pub permuted-cons_option : {A : Type 0} (xs : List A) (o : Option ℕ) (r : List ℕ) → permuted xs (cons_option o r) ≡ cons_option (get_option xs o) (permuted xs r)
permuted-cons_option xs None r = refl
permuted-cons_option xs (Some k) r = refl

-- permuting twice is permuting once, by the composite
pub permuted-permuted : {A : Type 0} (xs : List A) (p : List ℕ) → Under (length xs) p → (q : List ℕ) → permuted (permuted xs p) q ≡ permuted xs (permuted p q)
permuted-permuted xs p u [] = refl
permuted-permuted xs p u (k ∷ q) = ap₂ cons_option (get-permuted xs p u k) (permuted-permuted xs p u q) ∙ sym (permuted-cons_option xs (slice_get p k) (permuted p q))

pub permuted-append : {A : Type 0} (xs : List A) (p q : List ℕ) → permuted xs (p ++ q) ≡ permuted xs p ++ permuted xs q
permuted-append xs p q = filter_map-append (slice_get xs) p q

pub get-append_left : {A : Type 0} (xs ys : List A) (k : ℕ) → k < length xs → slice_get (xs ++ ys) k ≡ slice_get xs k
get-append_left [] ys k h = absurd (omega arith)
get-append_left (x ∷ xs) ys zero h = refl
get-append_left (x ∷ xs) ys (suc k) h = get-append_left xs ys k (omega arith)

pub get-append_right : {A : Type 0} (xs ys : List A) (k : ℕ) → slice_get (xs ++ ys) (length xs + k) ≡ slice_get ys k
get-append_right [] ys k = ap (slice_get ys) (zero-add k)
get-append_right (x ∷ xs) ys k = ap (slice_get (x ∷ xs ++ ys)) (suc-add (length xs) k) ∙ get-append_right xs ys k

-- places below the length of the first list look at it alone
pub permuted-append_left : {A : Type 0} (xs ys : List A) (p : List ℕ) → Under (length xs) p → permuted (xs ++ ys) p ≡ permuted xs p
permuted-append_left xs ys [] u = refl
permuted-append_left xs ys (k ∷ p) u = ap₂ cons_option (get-append_left xs ys k u.0) (permuted-append_left xs ys p u.1)

-- places moved past the first list look at the second alone
pub permuted-shifted : {A : Type 0} (xs ys : List A) (p : List ℕ) → permuted (xs ++ ys) (shifted (length xs) p) ≡ permuted ys p
permuted-shifted xs ys [] = refl
permuted-shifted xs ys (k ∷ p) = ap₂ cons_option (get-append_right xs ys k) (permuted-shifted xs ys p)

pub count_from-shifted : (n k m : ℕ) → count_from (n + k) m ≡ shifted n (count_from k m)
count_from-shifted n k zero = refl
count_from-shifted n k (suc m) = ap (λ r. (n + k) ∷ r) (ap (λ j. count_from j m) (sym (add-suc n k)) ∙ count_from-shifted n (suc k) m)

pub count_from-0 : (n m : ℕ) → count_from n m ≡ shifted n (count_from 0 m)
count_from-0 n m = ap (λ j. count_from j m) (sym (add-zero n)) ∙ count_from-shifted n 0 m

-- the identity permutes nothing
pub permuted-all : {A : Type 0} (xs : List A) → permuted xs (count_from 0 (length xs)) ≡ xs
permuted-all [] = refl
permuted-all (x ∷ xs) = ap (λ r. x ∷ r) (ap (permuted (x ∷ xs)) (count_from-0 1 (length xs)) ∙ permuted-shifted (x ∷ []) xs (count_from 0 (length xs)) ∙ permuted-all xs)

pub permuted-right : {A : Type 0} (xs ys : List A) → permuted (xs ++ ys) (count_from (length xs) (length ys)) ≡ ys
permuted-right xs ys = ap (permuted (xs ++ ys)) (count_from-0 (length xs) (length ys)) ∙ permuted-shifted xs ys _ ∙ permuted-all ys

pub length-count_from : (k n : ℕ) → length (count_from k n) ≡ n
length-count_from k zero = refl
length-count_from k (suc n) = ap suc (length-count_from (suc k) n)

pub Under-count_from : (m k n : ℕ) → k + n ≤ m → Under m (count_from k n)
Under-count_from m k zero h = tt
Under-count_from m k (suc n) h = (omega arith, Under-count_from m (suc k) n (omega arith))

pub permuted-left : {A : Type 0} (xs ys : List A) → permuted (xs ++ ys) (count_from 0 (length xs)) ≡ xs
permuted-left xs ys = permuted-append_left xs ys _ (Under-count_from (length xs) 0 (length xs) (omega arith)) ∙ permuted-all xs

-- the swap of two blocks swaps them
pub permuted-swapped : {A : Type 0} (xs ys : List A) → permuted (xs ++ ys) (swapped (length xs) (length ys)) ≡ ys ++ xs
permuted-swapped xs ys = permuted-append (xs ++ ys) (count_from (length xs) (length ys)) (count_from 0 (length xs)) ∙ ap₂ (λ a b. a ++ b) (permuted-right xs ys) (permuted-left xs ys)

-- the item at k of mapped items
pub get-map : {A B : Type 0} (f : A → B) (xs : List A) (k : ℕ) → slice_get (map f xs) k ≡ option_map f (slice_get xs k)
get-map f [] k = refl
get-map f (x ∷ xs) zero = refl
get-map f (x ∷ xs) (suc k) = get-map f xs k

-- permuting items that are mapped
pub permuted-map : {A B : Type 0} (f : A → B) (xs : List A) (p : List ℕ) → Under (length xs) p → permuted (map f xs) p ≡ map f (permuted xs p)
permuted-map f xs [] u = refl
permuted-map f xs (k ∷ p) u = let g = found xs k u.0 in rw (g.1, get-map f xs k g.0 g.1) (ap (λ r. f g.0 ∷ r) (permuted-map f xs p u.1))
  where
    get-map : {A B : Type 0} (f : A → B) (xs : List A) (k : ℕ) (x : A) → slice_get xs k ≡ Some x → slice_get (map f xs) k ≡ Some (f x)
    get-map f [] k x e = cc
    get-map f (y ∷ xs) zero x e = cc
    get-map f (y ∷ xs) (suc k) x e = get-map f xs k x e

pub take-left : {A : Type 0} (xs ys : List A) (n : ℕ) → length xs ≡ n → take n (xs ++ ys) ≡ xs
take-left [] ys n h = rw (← h) refl
take-left (x ∷ xs) ys n h = rw (← h) (ap (λ r. x ∷ r) (take-left xs ys (length xs) refl))

pub drop-left : {A : Type 0} (xs ys : List A) (n : ℕ) → length xs ≡ n → drop n (xs ++ ys) ≡ ys
drop-left [] ys n h = rw (← h) refl
drop-left (x ∷ xs) ys n h = rw (← h) (drop-left xs ys (length xs) refl)

pub in_map : {A B : Type 0} (f : A → B) (xs : List A) (k : ℕ) (y : B) → slice_get (map f xs) k ≡ Some y → (x : A) × (slice_get xs k ≡ Some x) × (f x ≡ y)
in_map f [] k y e = cc
in_map f (x ∷ xs) zero y e = (x, refl, cc)
in_map f (x ∷ xs) (suc k) y e = in_map f xs k y e

-- ## isomorphisms make the pairs of the ends

pub map-get : (f : ℕ → ℕ) (xs : List ℕ) (i x : ℕ) → slice_get xs i ≡ Some x → slice_get (map f xs) i ≡ Some (f x)
map-get f [] i x e = cc
map-get f (y ∷ xs) zero x e = let q : y ≡ x = cc in ap (λ z. Some (f z)) q
map-get f (y ∷ xs) (suc i) x e = map-get f xs i x e
