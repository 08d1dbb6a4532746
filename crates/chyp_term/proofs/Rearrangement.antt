-- Lists with the same items in another order.
use Rattle.std.proofs.Common.{[], ℕ, zero, suc, ◌+◌, ◌<◌, ◌≤◌, ◌≡◌, Bool, true, false, cond, eqb, List, ◌∷◌, ◌++◌, map, length, filter, Option, Some, None, slice_get, filter_map, flat_map}
use Rattle.std.proofs.Common.{refl, sym, ◌∙◌, ap, ap₂, subst, arith, append_assoc, append-nil, ne_eqb, eq-eqb}
use Rattle.std.specs.List.{IsDistinct, AllByRecursion, cons_option}
use Rattle.chyp_term.specs.Perm.{IsPermutation, count_from, permuted}
use Rattle.chyp_term.proofs.Distinct.{distinct-filter, distinct-index}
use Rattle.chyp_term.proofs.Inverses.{Under-index, place-found, place_in}
use Rattle.chyp_term.proofs.Permuted.{Under, Under-count_from, length-count_from, permuted-all}

-- the same items in another order
pub data Rearr {A : Type 0} : List A → List A → Type 0 where
  end : Rearr [] []
  skip : (x : A) {xs ys : List A} → Rearr xs ys → Rearr (x ∷ xs) (x ∷ ys)
  turn : (x y : A) (xs : List A) → Rearr (x ∷ y ∷ xs) (y ∷ x ∷ xs)
  join : {xs ys zs : List A} → Rearr xs ys → Rearr ys zs → Rearr xs zs

pub Rearr-refl : {A : Type 0} (xs : List A) → Rearr xs xs
Rearr-refl [] = end
Rearr-refl (x ∷ xs) = skip x (Rearr-refl xs)

pub Rearr-sym : {A : Type 0} {xs ys : List A} → Rearr xs ys → Rearr ys xs
Rearr-sym end = end
Rearr-sym (skip x r) = skip x (Rearr-sym r)
Rearr-sym (turn x y xs) = turn y x xs
Rearr-sym (join r q) = join (Rearr-sym q) (Rearr-sym r)

pub Rearr-left : {A : Type 0} (zs : List A) {xs ys : List A} → Rearr xs ys → Rearr (zs ++ xs) (zs ++ ys)
Rearr-left [] r = r
Rearr-left (z ∷ zs) r = skip z (Rearr-left zs r)

pub Rearr-right : {A : Type 0} (zs : List A) {xs ys : List A} → Rearr xs ys → Rearr (xs ++ zs) (ys ++ zs)
Rearr-right zs end = Rearr-refl zs
Rearr-right zs (skip x r) = skip x (Rearr-right zs r)
Rearr-right zs (turn x y xs) = turn x y (xs ++ zs)
Rearr-right zs (join r q) = join (Rearr-right zs r) (Rearr-right zs q)

pub Rearr-append : {A : Type 0} {xs ys us vs : List A} → Rearr xs ys → Rearr us vs → Rearr (xs ++ us) (ys ++ vs)
Rearr-append {ys = ys} {us = us} r q = join (Rearr-right us r) (Rearr-left ys q)

pub Rearr-same : {A : Type 0} {xs ys : List A} → xs ≡ ys → Rearr xs ys
Rearr-same {xs = xs} e = subst (Rearr xs) e (Rearr-refl xs)

pub Rearr-middle : {A : Type 0} (x : A) (xs ys : List A) → Rearr (xs ++ x ∷ ys) (x ∷ xs ++ ys)
Rearr-middle x [] ys = Rearr-refl (x ∷ ys)
Rearr-middle x (y ∷ xs) ys = join (skip y (Rearr-middle x xs ys)) (turn y x (xs ++ ys))

pub Rearr-comm : {A : Type 0} (xs ys : List A) → Rearr (xs ++ ys) (ys ++ xs)
Rearr-comm [] ys = Rearr-same (sym (append-nil ys))
Rearr-comm (x ∷ xs) ys = join (skip x (Rearr-comm xs ys)) (Rearr-sym (Rearr-middle x ys xs))

-- the second and the third of four change places
pub Rearr-inner : {A : Type 0} (a b c d : List A) → Rearr ((a ++ b) ++ (c ++ d)) ((a ++ c) ++ (b ++ d))
Rearr-inner a b c d =
    join (Rearr-same (append_assoc a b (c ++ d) ∙ ap (λ z. a ++ z) (sym (append_assoc b c d))))
    (join (Rearr-left a (Rearr-right d (Rearr-comm b c)))
    (Rearr-same (ap (λ z. a ++ z) (append_assoc c b d) ∙ sym (append_assoc a c (b ++ d)))))

pub Rearr-filter_map : {A B : Type 0} (f : A → Option B) {xs ys : List A} → Rearr xs ys → Rearr (filter_map f xs) (filter_map f ys)
Rearr-filter_map f end = end
Rearr-filter_map f (skip x r) = on (f x) (Rearr-filter_map f r)
  where
    on : {B : Type 0} (o : Option B) {us vs : List B} → Rearr us vs → Rearr (cons_option o us) (cons_option o vs)
    on None r = r
    on (Some y) r = skip y r
Rearr-filter_map f (turn x y xs) = two (f x) (f y) (filter_map f xs)
  where
    two : {B : Type 0} (o p : Option B) (us : List B) → Rearr (cons_option o (cons_option p us)) (cons_option p (cons_option o us))
    two None p us = Rearr-refl _
    two (Some x) None us = Rearr-refl _
    two (Some x) (Some y) us = turn x y us
Rearr-filter_map f (join r q) = join (Rearr-filter_map f r) (Rearr-filter_map f q)

pub without : {A : Type 0} → List A → ℕ → List A
without [] k = []
without (x ∷ xs) zero = xs
without (x ∷ xs) (suc k) = x ∷ without xs k

pub pull : {A : Type 0} (xs : List A) (k : ℕ) (x : A) → slice_get xs k ≡ Some x → Rearr (x ∷ without xs k) xs
unfolding without
pull [] k x e = cc
pull (y ∷ xs) zero x e = let q : y ≡ x = cc in Rearr-same (ap (λ z. z ∷ xs) (sym q))
pull (y ∷ xs) (suc k) x e = join (turn x y (without xs k)) (skip y (pull xs k x e))

pub kept_in : {A : Type 0} (xs : List A) (k j : ℕ) (x y : A) → slice_get xs k ≡ Some x → slice_get xs j ≡ Some y → (y ≡ x → ⊥) → (i : ℕ) × (slice_get (without xs k) i ≡ Some y)
unfolding without
kept_in [] k j x y e f n = cc
kept_in (z ∷ xs) zero zero x y e f n = absurd (n cc)
kept_in (z ∷ xs) zero (suc j) x y e f n = (j, f)
kept_in (z ∷ xs) (suc k) zero x y e f n = (0, f)
kept_in (z ∷ xs) (suc k) (suc j) x y e f n = let h = kept_in xs k j x y e f n in (suc h.0, h.1)

pub length-without : {A : Type 0} (xs : List A) (k : ℕ) (x : A) → slice_get xs k ≡ Some x → suc (length (without xs k)) ≡ length xs
unfolding without
length-without [] k x e = cc
length-without (y ∷ xs) zero x e = refl
length-without (y ∷ xs) (suc k) x e = ap suc (length-without xs k x e)

-- a list of n that has each of n numbers
pub has_all : (k n : ℕ) (ys : List ℕ) → length ys ≡ n → ((y : ℕ) → k ≤ y → y < k + n → (i : ℕ) × (slice_get ys i ≡ Some y)) → Rearr (count_from k n) ys
has_all k zero [] l h = end
has_all k zero (y ∷ ys) l h = absurd (omega arith)
has_all k (suc n) ys l h =
    let f = h k (omega arith) (omega arith) in
    join (skip k (has_all (suc k) n (without ys f.0) (let q = length-without ys f.0 k f.1 in omega arith)
    (λ y a b. let g = h y (omega arith) (omega arith) in kept_in ys f.0 g.0 k y f.1 g.1 (λ q. omega arith))))
    (pull ys f.0 k f.1)

-- a permutation rearranges the numbers below n
pub permutation-Rearr : (n : ℕ) (p : List ℕ) → IsPermutation n p → Rearr (count_from 0 n) p
permutation-Rearr n p t = has_all 0 n p t.size (λ y _ b. let f = place_in n p t y (omega arith) in (f.0, place-found y p f.0 f.1))

pub permuted-Rearr : {A : Type 0} (xs : List A) (p : List ℕ) → IsPermutation (length xs) p → Rearr xs (permuted xs p)
permuted-Rearr xs p t = join (Rearr-same (sym (permuted-all xs))) (Rearr-filter_map (slice_get xs) (permutation-Rearr (length xs) p t))

pub flat-append : {A B : Type 0} (f : A → List B) (xs ys : List A) → flat_map f (xs ++ ys) ≡ flat_map f xs ++ flat_map f ys
flat-append f [] ys = refl
flat-append f (x ∷ xs) ys = ap (λ z. f x ++ z) (flat-append f xs ys) ∙ sym (append_assoc (f x) (flat_map f xs) (flat_map f ys))

pub flat-map : {A B C : Type 0} (f : B → List C) (g : A → B) (xs : List A) → flat_map f (map g xs) ≡ flat_map (λ x. f (g x)) xs
flat-map f g [] = refl
flat-map f g (x ∷ xs) = ap (λ z. f (g x) ++ z) (flat-map f g xs)

pub Rearr-map : {A B : Type 0} (f : A → B) {xs ys : List A} → Rearr xs ys → Rearr (map f xs) (map f ys)
Rearr-map f end = end
Rearr-map f (skip x r) = skip (f x) (Rearr-map f r)
Rearr-map f (turn x y xs) = turn (f x) (f y) (map f xs)
Rearr-map f (join r q) = join (Rearr-map f r) (Rearr-map f q)

pub Rearr-filter : {A : Type 0} (p : A → Bool) {xs ys : List A} → Rearr xs ys → Rearr (filter p xs) (filter p ys)
Rearr-filter p end = end
Rearr-filter p (skip x r) = on (p x) x (Rearr-filter p r)
  where
    on : {A : Type 0} (b : Bool) (x : A) {us vs : List A} → Rearr us vs → Rearr (cond b (x ∷ us) us) (cond b (x ∷ vs) vs)
    on true x r = skip x r
    on false x r = r
Rearr-filter p (turn x y xs) = two (p x) (p y) x y (filter p xs)
  where
    two : {A : Type 0} (b c : Bool) (x y : A) (us : List A) → Rearr (cond b (x ∷ cond c (y ∷ us) us) (cond c (y ∷ us) us)) (cond c (y ∷ cond b (x ∷ us) us) (cond b (x ∷ us) us))
    two true true x y us = turn x y us
    two true false x y us = Rearr-refl (x ∷ us)
    two false true x y us = Rearr-refl (y ∷ us)
    two false false x y us = Rearr-refl us
Rearr-filter p (join r q) = join (Rearr-filter p r) (Rearr-filter p q)

pub Rearr-length : {A : Type 0} {xs ys : List A} → Rearr xs ys → length xs ≡ length ys
Rearr-length end = refl
Rearr-length (skip x r) = ap suc (Rearr-length r)
Rearr-length (turn x y xs) = refl
Rearr-length (join r q) = Rearr-length r ∙ Rearr-length q

pub Rearr-all : {A : Type 0} (P : A → Type 0) {xs ys : List A} → Rearr xs ys → AllByRecursion P xs → AllByRecursion P ys
Rearr-all P end a = tt
Rearr-all P (skip x r) a = (a.0, Rearr-all P r a.1)
Rearr-all P (turn x y xs) a = (a.1.0, (a.0, a.1.1))
Rearr-all P (join r q) a = Rearr-all P q (Rearr-all P r a)

pub apart-turn : (x y : ℕ) → eqb x y ≡ false → eqb y x ≡ false
apart-turn x y e = ne_eqb y x (λ q. let r : eqb x y ≡ true = eq-eqb x y (sym q) in cc)

pub Rearr-distinct : {xs ys : List ℕ} → Rearr xs ys → IsDistinct eqb xs → IsDistinct eqb ys
unfolding IsDistinct
Rearr-distinct end d = d
Rearr-distinct (skip x r) d = (Rearr-all (λ y. eqb x y ≡ false) r d.0, Rearr-distinct r d.1)
Rearr-distinct (turn x y xs) d = ((apart-turn x y d.0.0, d.1.0), (d.0.1, d.1.1))
Rearr-distinct (join r q) d = Rearr-distinct q (Rearr-distinct r d)

pub under-all : (n : ℕ) (xs : List ℕ) → Under n xs → AllByRecursion (λ k. k < n) xs
under-all n [] u = tt
under-all n (x ∷ xs) u = (u.0, under-all n xs u.1)

pub all-under : (n : ℕ) (xs : List ℕ) → AllByRecursion (λ k. k < n) xs → Under n xs
all-under n [] u = tt
all-under n (x ∷ xs) u = (u.0, all-under n xs u.1)

pub filter-true : (k n : ℕ) → filter (λ _. true) (count_from k n) ≡ count_from k n
filter-true k zero = refl
filter-true k (suc n) = ap (λ r. k ∷ r) (filter-true (suc k) n)

-- and what rearranges them is a permutation
pub Rearr-permutation : (n : ℕ) (p : List ℕ) → Rearr (count_from 0 n) p → IsPermutation n p
Rearr-permutation n p r = record {
  size = size;
  within = λ i h. Under-index n p (all-under n p (Rearr-all (λ k. k < n) r (under-all n (count_from 0 n) (Under-count_from n 0 n (omega arith))))) i (subst (λ m. i < m) (sym size) h);
  apart = λ i j h l e. distinct-index p (Rearr-distinct r (subst (IsDistinct eqb) (filter-true 0 n) (distinct-filter (λ _. true) 0 n))) i j
      (subst (λ m. i < m) (sym size) h) (subst (λ m. j < m) (sym size) l) e;
}
  where
    size : length p ≡ n
    size = sym (Rearr-length r) ∙ length-count_from 0 n

pub all-count : {A : Type 0} (P : A → Type 0) (f : ℕ → A) (k n : ℕ) → ((i : ℕ) → k ≤ i → i < k + n → P (f i)) → AllByRecursion P (map f (count_from k n))
all-count P f k zero h = tt
all-count P f k (suc n) h = (h k (omega arith) (omega arith), all-count P f (suc k) n (λ i a b. h i (omega arith) (omega arith)))

pub Rearr-flat : {A B : Type 0} (f : A → List B) {xs ys : List A} → Rearr xs ys → Rearr (flat_map f xs) (flat_map f ys)
Rearr-flat f end = end
Rearr-flat f (skip x r) = Rearr-left (f x) (Rearr-flat f r)
Rearr-flat f (turn x y xs) = two (f x) (f y) (flat_map f xs)
  where
    two : {B : Type 0} (a b c : List B) → Rearr (a ++ (b ++ c)) (b ++ (a ++ c))
    two a b c = join (Rearr-same (sym (append_assoc a b c))) (join (Rearr-append (Rearr-comm a b) (Rearr-refl c)) (Rearr-same (append_assoc b a c)))
Rearr-flat f (join r q) = join (Rearr-flat f r) (Rearr-flat f q)

pub map-all : (f g : ℕ → ℕ) (xs : List ℕ) → AllByRecursion (λ y. f y ≡ g y) xs → map f xs ≡ map g xs
map-all f g [] a = refl
map-all f g (x ∷ xs) a = ap₂ (λ y r. y ∷ r) a.0 (map-all f g xs a.1)
