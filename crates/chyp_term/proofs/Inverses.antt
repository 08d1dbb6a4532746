-- Each permutation has an inverse, by the pigeonhole principle; permutations are closed under what the laws do with them.
use Rattle.std.proofs.Common.{[], ℕ, zero, suc, ◌+◌, ◌<◌, ◌≤◌, ◌≡◌, true, false, cond, eqb, List, ◌∷◌, ◌++◌, map, length, Option, Some, None, option_map, slice_get, slice_index, ◌⊎◌}
use Rattle.std.proofs.Common.{inl, inr, refl, sym, ◌∙◌, ap, ap₂, subst, arith, length-append, add-zero, zero-add, eq-eqb, ne_eqb, eqb-true}
use Rattle.std.proofs.lemmas.List.{length-map}
use Rattle.std.proofs.lemmas.Bool.{cases_eq, cases_Bool, or_cases}
use Rattle.std.specs.List.{IsDistinct, AllByRecursion, list_any}
use Rattle.std.proofs.lemmas.Map.Steps.{length-le_from_distinct_below}
use Rattle.chyp_term.specs.Perm.{IsPermutation, permuted, count_from, shifted, swapped}
use Rattle.chyp_term.specs.Positions.{place_of}
use Rattle.chyp_term.proofs.Positions.{slice_get-length, count_from-append}
use Rattle.chyp_term.proofs.Permuted.{Under, get_option, get-permuted, permuted-all, permuted-swapped, length-count_from, Under-count_from}
use Rattle.chyp_term.proofs.Closure.{Under-perm, index-get, get-index}

pub get-count : (k n i : ℕ) → i < n → slice_get (count_from k n) i ≡ Some (k + i)
get-count k zero i h = absurd (omega arith)
get-count k (suc n) zero h = ap Some (sym (add-zero k))
get-count k (suc n) (suc i) h = get-count (suc k) n i (omega arith) ∙ ap Some (omega arith)

pub get-count0 : (n i : ℕ) → i < n → slice_get (count_from 0 n) i ≡ Some i
get-count0 n i h = get-count 0 n i h ∙ ap Some (zero-add i)

-- a list of places below n is its own picture among the numbers below n
pub permuted-numbers : (n : ℕ) (p : List ℕ) → Under n p → permuted (count_from 0 n) p ≡ p
permuted-numbers n [] u = refl
permuted-numbers n (k ∷ p) u = rw (get-count0 n k u.0) (ap (λ r. k ∷ r) (permuted-numbers n p u.1))

pub Under-append : (n : ℕ) (p q : List ℕ) → Under n p → Under n q → Under n (p ++ q)
Under-append n [] q u v = v
Under-append n (k ∷ p) q u v = (u.0, Under-append n p q u.1 v)

pub length-shifted : (m : ℕ) (p : List ℕ) → length (shifted m p) ≡ length p
length-shifted m p = length-map p (λ k. m + k)

-- q undoes p
pub record Undoes (n : ℕ) (p q : List ℕ) : Type 0 where
  pub size : length p ≡ n
  pub back_size : length q ≡ n
  pub under : Under n p
  pub back_under : Under n q
  pub there : permuted p q ≡ count_from 0 n
  pub here : permuted q p ≡ count_from 0 n

pub Undoes-sym : {n : ℕ} {p q : List ℕ} → Undoes n p q → Undoes n q p
Undoes-sym u = record { size = u.back_size; back_size = u.size; under = u.back_under; back_under = u.under; there = u.here; here = u.there }

pub Undoes-id : (n : ℕ) → Undoes n (count_from 0 n) (count_from 0 n)
Undoes-id n = record {
  size = length-count_from 0 n;
  back_size = length-count_from 0 n;
  under = Under-count_from n 0 n (omega arith);
  back_under = Under-count_from n 0 n (omega arith);
  there = permuted-numbers n _ (Under-count_from n 0 n (omega arith));
  here = permuted-numbers n _ (Under-count_from n 0 n (omega arith));
}

pub permuted-count : {A : Type 0} (xs : List A) (n : ℕ) → length xs ≡ n → permuted xs (count_from 0 n) ≡ xs
permuted-count xs n h = rw (← h) (permuted-all xs)

pub Under-swapped : (m n : ℕ) → Under (m + n) (swapped m n)
Under-swapped m n = Under-append (m + n) (count_from m n) (count_from 0 m) (Under-count_from (m + n) m n (omega arith)) (Under-count_from (m + n) 0 m (omega arith))

pub length-swapped : (m n : ℕ) → length (swapped m n) ≡ m + n
length-swapped m n = length-append (count_from m n) (count_from 0 m) ∙ ap₂ (λ x y. x + y) (length-count_from m n) (length-count_from 0 m) ∙ omega arith

pub swapped-swapped : (m n : ℕ) → permuted (swapped m n) (swapped n m) ≡ count_from 0 (m + n)
swapped-swapped m n =
    ap (λ k. permuted (count_from m n ++ count_from 0 m) k) (ap₂ swapped (sym (length-count_from m n)) (sym (length-count_from 0 m)))
    ∙ permuted-swapped (count_from m n) (count_from 0 m)
    ∙ ap (λ k. count_from 0 m ++ count_from k n) (sym (zero-add m)) ∙ sym (count_from-append 0 m n)

-- the swap of two blocks is undone by the swap back
pub Undoes-swapped : (m n : ℕ) → Undoes (m + n) (swapped m n) (swapped n m)
Undoes-swapped m n = record {
  size = length-swapped m n;
  back_size = length-swapped n m ∙ omega arith;
  under = Under-swapped m n;
  back_under = subst (λ k. Under k (swapped n m)) (omega arith) (Under-swapped n m);
  there = swapped-swapped m n;
  here = swapped-swapped n m ∙ ap (count_from 0) (omega arith);
}

-- ## and `IsPermutation`

pub Under-index : (n : ℕ) (p : List ℕ) → Under n p → (i : ℕ) → i < length p → slice_index p i < n
Under-index n [] u i h = absurd (omega arith)
Under-index n (k ∷ p) u zero h = u.0
Under-index n (k ∷ p) u (suc i) h = Under-index n p u.1 i (omega arith)

-- what has an inverse is a permutation
pub to_perm : {n : ℕ} {p q : List ℕ} → Undoes n p q → IsPermutation n p
to_perm {n} {p} {q} u = record {
  size = u.size;
  within = λ i h. Under-index n p u.under i (subst (λ m. i < m) (sym u.size) h);
  apart = λ i j h l e. some i j (sym (back i h) ∙ ap (slice_get q) e ∙ back j l);
}
  where
    back : (i : ℕ) → i < n → slice_get q (slice_index p i) ≡ Some i
    back i h =
        ap (get_option q) (sym (get-index p i (subst (λ m. i < m) (sym u.size) h)))
        ∙ sym (get-permuted q p (subst (λ m. Under m p) (sym u.back_size) u.under) i)
        ∙ ap (λ l. slice_get l i) u.here ∙ get-count0 n i h

    some : (i j : ℕ) → ◌≡◌ {A = Option ℕ} (Some i) (Some j) → i ≡ j
    some i j e = cc

pub place-found : (w : ℕ) (ks : List ℕ) (j : ℕ) → place_of w ks ≡ Some j → slice_get ks j ≡ Some w
place-found w [] j e = cc
place-found w (k ∷ ks) j e = go (λ i f. place-found w ks i f) (cases_Bool (eqb k w))
  where
    after : (o : Option ℕ) (i : ℕ) → option_map suc o ≡ Some i → (l : ℕ) × (o ≡ Some l) × (i ≡ suc l)
    after None i e = cc
    after (Some l) i e = (l, refl, cc)

    go : ((i : ℕ) → place_of w ks ≡ Some i → slice_get ks i ≡ Some w) → (eqb k w ≡ true) ⊎ (eqb k w ≡ false) → slice_get (k ∷ ks) j ≡ Some w
    go ih (inl b) = let q : ◌≡◌ {A = Option ℕ} (Some 0) (Some j) = ap (λ c. cond c (Some 0) (option_map suc (place_of w ks))) (sym b) ∙ e in
        let z : 0 ≡ j = cc in rw (← z) (ap Some (eqb-true k w b))
    go ih (inr b) =
        let q = after (place_of w ks) j (ap (λ c. cond c (Some 0) (option_map suc (place_of w ks))) (sym b) ∙ e) in
        rw q.2 (ih q.0 q.1)

pub all-apart : (x : ℕ) (xs : List ℕ) → ((i : ℕ) → i < length xs → slice_index xs i ≡ x → ⊥) → AllByRecursion (λ y. eqb x y ≡ false) xs
all-apart x [] h = tt
all-apart x (y ∷ xs) h = (ne_eqb x y (λ e. h 0 (omega arith) (sym e)), all-apart x xs (λ i l e. h (suc i) (omega arith) e))

pub distinct : (xs : List ℕ) → ((i j : ℕ) → i < length xs → j < length xs → slice_index xs i ≡ slice_index xs j → i ≡ j) → IsDistinct eqb xs
unfolding IsDistinct
distinct [] h = tt
distinct (x ∷ xs) h = (
  all-apart x xs (λ i l e. let q : suc i ≡ 0 = h (suc i) 0 (omega arith) (omega arith) e in omega arith),
  distinct xs
      (λ i j a b e. let q : suc i ≡ suc j = h (suc i) (suc j) (omega arith) (omega arith) e in omega arith),
)

pub none-apart : (k : ℕ) (xs : List ℕ) → place_of k xs ≡ None → AllByRecursion (λ y. eqb k y ≡ false) xs
none-apart k [] e = tt
none-apart k (y ∷ xs) e = go (cases_eq y k) (λ f. none-apart k xs f)
  where
    back : (o : Option ℕ) → option_map suc o ≡ None → o ≡ None
    back None e = refl
    back (Some i) e = cc

    go : (y ≡ k) ⊎ (y ≡ k → ⊥) → (place_of k xs ≡ None → AllByRecursion (λ y. eqb k y ≡ false) xs) → AllByRecursion (λ y. eqb k y ≡ false) (y ∷ xs)
    go (inl q) ih = let f : ◌≡◌ {A = Option ℕ} (Some 0) None = ap (λ c. cond c (Some 0) (option_map suc (place_of k xs))) (sym (eq-eqb y k q)) ∙ e in cc
    go (inr n) ih = (ne_eqb k y (λ q. n (sym q)), ih (back (place_of k xs) (ap (λ c. cond c (Some 0) (option_map suc (place_of k xs))) (sym (ne_eqb y k n)) ∙ e)))

pub any-below : (n q : ℕ) (xs : List ℕ) → Under n xs → list_any (eqb q) xs ≡ true → q < n
any-below n q [] u e = cc
any-below n q (x ∷ xs) u e = go (or_cases (eqb q x) (list_any (eqb q) xs) e) (λ f. any-below n q xs u.1 f)
  where
    go : (eqb q x ≡ true) ⊎ (list_any (eqb q) xs ≡ true) → (list_any (eqb q) xs ≡ true → q < n) → q < n
    go (inl a) ih = subst (λ z. z < n) (sym (eqb-true q x a)) u.0
    go (inr b) ih = ih b

-- each place stands in a permutation
pub place_in : (n : ℕ) (p : List ℕ) → IsPermutation n p → (k : ℕ) → k < n → (j : ℕ) × (place_of k p ≡ Some j)
place_in n p t k h = go (place_of k p) refl
  where
    many : IsDistinct eqb (k ∷ p) → length (k ∷ p) ≤ n
    many d = length-le_from_distinct_below (k ∷ p) n d (λ q e. any-below n q (k ∷ p) (h, Under-perm n p t) e)

    pair : AllByRecursion (λ y. eqb k y ≡ false) p → IsDistinct eqb p → IsDistinct eqb (k ∷ p)
    pair a b = pairing k p a b
      where
        pairing : (k : ℕ) (p : List ℕ) → AllByRecursion (λ y. eqb k y ≡ false) p → IsDistinct eqb p → IsDistinct eqb (k ∷ p)
        pairing k p a b = unfold IsDistinct in (a, b)

    go : (o : Option ℕ) → place_of k p ≡ o → (j : ℕ) × (place_of k p ≡ Some j)
    go (Some j) e = (j, e)
    go None e =
        let d = many (pair (none-apart k p e) (distinct p (λ i j a b q. t.apart i j (subst (λ m. i < m) t.size a) (subst (λ m. j < m) t.size b) q))) in
        let z = t.size in absurd (omega arith)

abbrev pub or_zero : Option ℕ → ℕ
or_zero None = 0
or_zero (Some k) = k

pub permuted-found : {A : Type 0} (xs : List A) (f : ℕ → ℕ) (ys : ℕ → A) (k n : ℕ) → ((i : ℕ) → k ≤ i → i < k + n → slice_get xs (f i) ≡ Some (ys i))
    → permuted xs (map f (count_from k n)) ≡ map ys (count_from k n)
permuted-found xs f ys k zero h = refl
permuted-found xs f ys k (suc n) h = rw (h k (omega arith) (omega arith)) (ap (λ r. ys k ∷ r) (permuted-found xs f ys (suc k) n (λ i a b. h i (omega arith) (omega arith))))

pub map-index-of : (p : List ℕ) → map (slice_index p) (count_from 0 (length p)) ≡ p
map-index-of p = from p 0 (slice_index p) (λ j l. ap (slice_index p) (zero-add j))
  where
    from : (outs : List ℕ) (k : ℕ) (f : ℕ → ℕ) → ((j : ℕ) → j < length outs → f (k + j) ≡ slice_index outs j) → map f (count_from k (length outs)) ≡ outs
    from [] k f h = refl
    from (x ∷ outs) k f h = ap₂ (λ y r. y ∷ r) (ap f (sym (add-zero k)) ∙ h 0 (omega arith)) (from outs (suc k) f (λ j l. ap f (omega arith) ∙ h (suc j) (omega arith)))

pub map-same : (k n : ℕ) → map (λ i. i) (count_from k n) ≡ count_from k n
map-same k zero = refl
map-same k (suc n) = ap (λ r. k ∷ r) (map-same (suc k) n)

pub Under-map-count : (m : ℕ) (f : ℕ → ℕ) (k n : ℕ) → ((i : ℕ) → k ≤ i → i < k + n → f i < m) → Under m (map f (count_from k n))
Under-map-count m f k zero h = tt
Under-map-count m f k (suc n) h = (h k (omega arith) (omega arith), Under-map-count m f (suc k) n (λ i a b. h i (omega arith) (omega arith)))

-- each permutation has an inverse
pub from_perm : (n : ℕ) (p : List ℕ) → IsPermutation n p → (q : List ℕ) × Undoes n p q
from_perm n p t = (
  map back (count_from 0 n),
  record {
    size = t.size;
    back_size = length-map (count_from 0 n) back ∙ length-count_from 0 n;
    under = Under-perm n p t;
    back_under = Under-map-count n back 0 n (λ i a b. let g = slice_get-length p _ _ (at i (omega arith)) in subst (λ m. back i < m) t.size g);
    there = permuted-found p back (λ i. i) 0 n (λ i a b. at i (omega arith)) ∙ map-same 0 n;
    here = ap (permuted (map back (count_from 0 n))) (sym (map-index-of p) ∙ ap (λ m. map (slice_index p) (count_from 0 m)) t.size)
        ∙ permuted-found (map back (count_from 0 n)) (slice_index p) (λ i. i) 0 n (λ i a b. again i (omega arith)) ∙ map-same 0 n;
  },
)
  where
    back : ℕ → ℕ
    back k = or_zero (place_of k p)

    at : (k : ℕ) → k < n → slice_get p (back k) ≡ Some k
    at k h = let f = place_in n p t k h in ap (λ o. slice_get p (or_zero o)) f.1 ∙ place-found k p f.0 f.1

    get-mapped : (f : ℕ → ℕ) (k m i : ℕ) → i < m → slice_get (map f (count_from k m)) i ≡ Some (f (k + i))
    get-mapped f k zero i h = absurd (omega arith)
    get-mapped f k (suc m) zero h = ap (λ x. Some (f x)) (sym (add-zero k))
    get-mapped f k (suc m) (suc i) h = get-mapped f (suc k) m i (omega arith) ∙ ap (λ x. Some (f x)) (omega arith)

    again : (i : ℕ) → i < n → slice_get (map back (count_from 0 n)) (slice_index p i) ≡ Some i
    again i h =
        let w = t.within i h in
        let f = at (slice_index p i) w in
        let l : back (slice_index p i) < n = subst (λ m. back (slice_index p i) < m) t.size (slice_get-length p _ _ f) in
        get-mapped back 0 n (slice_index p i) w
        ∙ ap (λ x. Some (back x)) (zero-add (slice_index p i))
        ∙ ap Some (t.apart (back (slice_index p i)) i l h (index-get p _ _ f))

pub id_perm : (n : ℕ) → IsPermutation n (count_from 0 n)
id_perm n = to_perm (Undoes-id n)
