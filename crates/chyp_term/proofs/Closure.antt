-- Permutations are closed under composition, and under standing side by side.
use Rattle.std.proofs.Common.{ℕ, zero, suc, ◌+◌, ◌-◌, ◌<◌, ◌≤◌, ◌≡◌, List, [], ◌∷◌, ◌++◌, length, take, get_or, Some, slice_get, slice_index, ◌⊎◌, inl, inr, refl}
use Rattle.std.proofs.Common.{sym, ◌∙◌, ap, ap₂, subst, arith, length-append}
use Rattle.std.specs.List.{cons_option}
use Rattle.std.proofs.lemmas.List.{take_more, length-map, get_or-map, get_or_append_left, get_or-append_right}
use Rattle.std.proofs.lemmas.Bool.{cases_lt}
use Rattle.chyp_term.specs.Perm.{IsPermutation, permuted, shifted}
use Rattle.chyp_term.proofs.Permuted.{Under, get_option, get-permuted, length-permuted, permuted-append}

-- `Under` by places
pub Under-from : (n : ℕ) (p : List ℕ) → ((i : ℕ) → i < length p → slice_index p i < n) → Under n p
Under-from n [] w = tt
Under-from n (k ∷ p) w = (w 0 (omega arith), Under-from n p (λ i h. w (suc i) (omega arith)))

pub Under-perm : (n : ℕ) (p : List ℕ) → IsPermutation n p → Under n p
Under-perm n p t = Under-from n p (λ i h. t.within i (subst (λ m. i < m) t.size h))

-- `slice_get` and `slice_index` of numbers
pub get-index : (p : List ℕ) (i : ℕ) → i < length p → slice_get p i ≡ Some (slice_index p i)
get-index [] i h = absurd (omega arith)
get-index (k ∷ p) zero h = refl
get-index (k ∷ p) (suc i) h = get-index p i (omega arith)

pub index-get : (p : List ℕ) (i k : ℕ) → slice_get p i ≡ Some k → slice_index p i ≡ k
index-get [] i k e = cc
index-get (x ∷ p) zero k e = cc
index-get (x ∷ p) (suc i) k e = index-get p i k e

-- `permuted` by places
pub index-permuted : (p q : List ℕ) → Under (length p) q → (i : ℕ) → i < length q → slice_index q i < length p → slice_index (permuted p q) i ≡ slice_index p (slice_index q i)
index-permuted p q u i h l = index-get (permuted p q) i _ (get-permuted p q u i ∙ ap (get_option p) (get-index q i h) ∙ get-index p _ l)

-- permutations compose
pub compose_perm : (n : ℕ) (p q : List ℕ) → IsPermutation n p → IsPermutation n q → IsPermutation n (permuted p q)
compose_perm n p q t u = record {
  size = length-permuted p q under ∙ u.size;
  within = λ i h. subst (λ k. k < n) (sym (at i h)) (t.within _ (u.within i h));
  apart = λ i j h l e. u.apart i j h l (t.apart _ _ (u.within i h) (u.within j l) (sym (at i h) ∙ e ∙ at j l));
}
  where
    under : Under (length p) q
    under = subst (λ m. Under m q) (sym t.size) (Under-perm n q u)

    at : (i : ℕ) → i < n → slice_index (permuted p q) i ≡ slice_index p (slice_index q i)
    at i h = index-permuted p q under i (subst (λ m. i < m) (sym u.size) h) (subst (λ m. slice_index q i < m) (sym t.size) (u.within i h))

-- permutations stand side by side
pub beside_perm : (m n : ℕ) (p q : List ℕ) → IsPermutation m p → IsPermutation n q → IsPermutation (m + n) (p ++ shifted m q)
beside_perm m n p q t u = record {
  size = length-append p (shifted m q) ∙ ap₂ (λ x y. x + y) t.size (length-map q (λ k. m + k) ∙ u.size);
  within = λ i h. within i h (cases_lt i m);
  apart = λ i j h l e. apart i j h l (cases_lt i m) (cases_lt j m) e;
}
  where
    all : List ℕ
    all = p ++ shifted m q

    front : (i : ℕ) → i < m → slice_index all i ≡ slice_index p i
    front i h = get_or_append_left p (shifted m q) 0 i (subst (λ k. i < k) (sym t.size) h)

    rear : (i : ℕ) → i < m + n → m ≤ i → slice_index all i ≡ m + slice_index q (i - m)
    rear i h l = get_or-append_right p (shifted m q) m i 0 t.size l ∙ get_or-map (λ k. m + k) q (i - m) 0 0 (let a = u.size in omega arith)

    within : (i : ℕ) → i < m + n → (i < m) ⊎ (m ≤ i) → slice_index all i < m + n
    within i h (inl a) = let b = front i a in let c = t.within i a in omega arith
    within i h (inr a) = let b = rear i h a in let c = u.within (i - m) (omega arith) in omega arith

    apart : (i j : ℕ) → i < m + n → j < m + n → (i < m) ⊎ (m ≤ i) → (j < m) ⊎ (m ≤ j) → slice_index all i ≡ slice_index all j → i ≡ j
    apart i j h l (inl a) (inl b) e = t.apart i j a b (sym (front i a) ∙ e ∙ front j b)
    apart i j h l (inl a) (inr b) e = let c = front i a in let d = rear j l b in let f = t.within i a in absurd (omega arith)
    apart i j h l (inr a) (inl b) e = let c = front j b in let d = rear i h a in let f = t.within j b in absurd (omega arith)
    apart i j h l (inr a) (inr b) e =
        let c = rear i h a in let d = rear j l b in
        let f : i - m ≡ j - m = u.apart (i - m) (j - m) (omega arith) (omega arith) (omega arith) in omega arith

-- the composite has the length of the parts
pub composed : (p q r : List ℕ) → length p ≡ length q → IsPermutation (length p) p → IsPermutation (length q) q → r ≡ permuted p q → IsPermutation (length r) r
composed p q r s t u e =
    let v : IsPermutation (length p) (permuted p q) = compose_perm (length p) p q t (subst (λ n. IsPermutation n q) (sym s) u) in
    subst (λ l. IsPermutation (length l) l) (sym e) (subst (λ n. IsPermutation n (permuted p q)) (sym v.size) v)

-- what stands beside another has both lengths
pub stood_beside : (p q r : List ℕ) → IsPermutation (length p) p → IsPermutation (length q) q → r ≡ p ++ shifted (length p) q → IsPermutation (length r) r
stood_beside p q r t u e =
    let v : IsPermutation (length p + length q) (p ++ shifted (length p) q) = beside_perm (length p) (length q) p q t u in
    subst (λ l. IsPermutation (length l) l) (sym e) (subst (λ n. IsPermutation n (p ++ shifted (length p) q)) (sym v.size) v)

-- `slice_get` where the item is known
pub get-item : {A : Type 0} (xs : List A) (k : ℕ) (x : A) → k < length xs → x ≡ get_or xs k x → slice_get xs k ≡ Some x
get-item xs k x h e = get_at xs k x h ∙ ap Some (sym e)
  where
    get_at : {A : Type 0} (xs : List A) (k : ℕ) (d : A) → k < length xs → slice_get xs k ≡ Some (get_or xs k d)
    get_at [] k d h = absurd (omega arith)
    get_at (y ∷ xs) zero d h = refl
    get_at (y ∷ xs) (suc k) d h = get_at xs k d (omega arith)

-- one more place takes one more item
pub permuted-more : {A : Type 0} (xs : List A) (p : List ℕ) (taken new : List A) (i : ℕ) (x y : A) → i < length p → slice_get xs (slice_index p i) ≡ Some x → y ≡ x
    → taken ≡ permuted xs (take i p) → new ≡ taken ++ y ∷ [] → new ≡ permuted xs (take (i + 1) p)
permuted-more xs p taken new i x y h g e t n =
    n ∙ ap₂ (λ r z. r ++ z ∷ []) t e
    ∙ sym (ap (permuted xs) (take_more p i 0 h) ∙ permuted-append xs (take i p) (slice_index p i ∷ []) ∙ ap (λ o. permuted xs (take i p) ++ cons_option o []) g)
