-- Each permutation has an inverse, by the pigeonhole principle.
use Rattle.std.proofs.Common.{[], ℕ, zero, suc, ◌<◌, ◌≤◌, ◌≡◌, true, eqb, List, ◌∷◌, length, slice_index, ◌⊎◌, inl, inr, refl, sym, ◌∙◌, ap, subst, arith, eqb-true}
use Rattle.std.proofs.lemmas.Bool.{cases_eq, or_cases}
use Rattle.std.proofs.lemmas.List.{ext_get_or}
use Rattle.std.proofs.lemmas.Map.Steps.{length-le_from_distinct_below}
use Rattle.std.specs.List.{IsDistinct, list_any}
use Rattle.chyp_term.specs.Perm.{IsPermutation, IsInverse, count_from}
use Rattle.chyp_term.proofs.Permuted.{Under, length-permuted, length-count_from}
use Rattle.chyp_term.proofs.Closure.{Under-from, index-permuted}
use Rattle.chyp_term.proofs.Counting.{index-count_from}
use Rattle.chyp_term.proofs.Inverses.{all-apart}

-- no two items are equal
abbrev pub AreApart : List ℕ → Type 0
AreApart xs = (i j : ℕ) → i < length xs → j < length xs → slice_index xs i ≡ slice_index xs j → i ≡ j

-- each item is below n
abbrev pub AreBelow : ℕ → List ℕ → Type 0
AreBelow n xs = (i : ℕ) → i < length xs → slice_index xs i < n

pub distinct : (xs : List ℕ) → AreApart xs → IsDistinct eqb xs
unfolding IsDistinct
distinct [] h = tt
distinct (x ∷ xs) h = (
  all-apart x xs (λ i l e. let q : suc i ≡ 0 = h (suc i) 0 (omega arith) (omega arith) e in omega arith),
  distinct xs (λ i j a b e. let q : suc i ≡ suc j = h (suc i) (suc j) (omega arith) (omega arith) e in omega arith),
)

pub any_below : (n q : ℕ) (xs : List ℕ) → AreBelow n xs → list_any (eqb q) xs ≡ true → q < n
any_below n q [] u e = cc
any_below n q (x ∷ xs) u e = go (or_cases (eqb q x) (list_any (eqb q) xs) e) (λ f. any_below n q xs (λ i h. u (suc i) (omega arith)) f)
  where
    go : (eqb q x ≡ true) ⊎ (list_any (eqb q) xs ≡ true) → (list_any (eqb q) xs ≡ true → q < n) → q < n
    go (inl a) ih = subst (λ z. z < n) (sym (eqb-true q x a)) (u 0 (omega arith))
    go (inr b) ih = ih b

-- the pigeonhole principle
pub pigeonhole : (n : ℕ) (xs : List ℕ) → AreApart xs → AreBelow n xs → length xs ≤ n
pigeonhole n xs a b = length-le_from_distinct_below xs n (distinct xs a) (λ q e. any_below n q xs b e)

-- where the items are numbers of 32 bits, so are their places
pub place_fits : (p : List ℕ) → IsPermutation (length p) p → ((i : ℕ) → slice_index p i < 4294967296) → (i : ℕ) → i < length p → i < 4294967296
place_fits p t f i h = let m = pigeonhole 4294967296 p (λ a b k l e. t.apart a b k l e) (λ a k. f a) in omega arith

-- a number stands in a list or does not
pub stands : (k : ℕ) (xs : List ℕ) → ((j : ℕ) × (j < length xs) × (slice_index xs j ≡ k)) ⊎ ((j : ℕ) → j < length xs → slice_index xs j ≡ k → ⊥)
stands k [] = inr (λ j h e. omega arith)
stands k (x ∷ xs) = go (cases_eq x k) (stands k xs)
  where
    none : (x ≡ k → ⊥) → ((j : ℕ) → j < length xs → slice_index xs j ≡ k → ⊥) → (j : ℕ) → j < length (x ∷ xs) → slice_index (x ∷ xs) j ≡ k → ⊥
    none a b zero h e = a e
    none a b (suc j) h e = b j (omega arith) e

    go : (x ≡ k) ⊎ (x ≡ k → ⊥) → ((j : ℕ) × (j < length xs) × (slice_index xs j ≡ k)) ⊎ ((j : ℕ) → j < length xs → slice_index xs j ≡ k → ⊥)
        → ((j : ℕ) × (j < length (x ∷ xs)) × (slice_index (x ∷ xs) j ≡ k)) ⊎ ((j : ℕ) → j < length (x ∷ xs) → slice_index (x ∷ xs) j ≡ k → ⊥)
    go (inl e) t = inl (0, omega arith, e)
    go (inr n) (inl t) = inl (suc t.0, let h = t.1 in omega arith, t.2)
    go (inr n) (inr t) = inr (none n t)

-- each number below the length stands in a permutation
pub stands_in : (p : List ℕ) → IsPermutation (length p) p → (k : ℕ) → k < length p → (j : ℕ) × (j < length p) × (slice_index p j ≡ k)
stands_in p t k h = go (stands k p)
  where
    apart : ((j : ℕ) → j < length p → slice_index p j ≡ k → ⊥) → (i j : ℕ) → i < length (k ∷ p) → j < length (k ∷ p) → slice_index (k ∷ p) i ≡ slice_index (k ∷ p) j → i ≡ j
    apart n zero zero a b e = refl
    apart n zero (suc j) a b e = absurd (n j (omega arith) (sym e))
    apart n (suc i) zero a b e = absurd (n i (omega arith) e)
    apart n (suc i) (suc j) a b e = ap suc (t.apart i j (omega arith) (omega arith) e)

    below : (i : ℕ) → i < length (k ∷ p) → slice_index (k ∷ p) i < length p
    below zero a = h
    below (suc i) a = t.within i (omega arith)

    go : ((j : ℕ) × (j < length p) × (slice_index p j ≡ k)) ⊎ ((j : ℕ) → j < length p → slice_index p j ≡ k → ⊥) → (j : ℕ) × (j < length p) × (slice_index p j ≡ k)
    go (inl s) = s
    go (inr n) = let m = pigeonhole (length p) (k ∷ p) (apart n) below in absurd (omega arith)

-- q has at each place of p the number of that place
pub record Returns (p q : List ℕ) : Type 0 where
  pub size : length q ≡ length p
  pub at : (j : ℕ) → j < length p → slice_index q (slice_index p j) ≡ j

-- such a q is a permutation
pub returning_perm : (p q : List ℕ) → IsPermutation (length p) p → Returns p q → IsPermutation (length q) q
returning_perm p q t r = subst (λ n. IsPermutation n q) (sym r.size) (record {
  size = r.size;
  within = λ i h. let s = stands_in p t i h in subst (λ k. k < length p) (sym (back i s.0 s.1 s.2)) s.1;
  apart = λ i j h l e.
      let s = stands_in p t i h in
      let u = stands_in p t j l in
      let v : s.0 ≡ u.0 = sym (back i s.0 s.1 s.2) ∙ e ∙ back j u.0 u.1 u.2 in
      sym s.2 ∙ ap (slice_index p) v ∙ u.2;
})
  where
    back : (i j : ℕ) → j < length p → slice_index p j ≡ i → slice_index q i ≡ j
    back i j h e = ap (slice_index q) (sym e) ∙ r.at j h

-- and it is the inverse
pub returning_inverse : (p q : List ℕ) → IsPermutation (length p) p → Returns p q → IsInverse p q
returning_inverse p q t r = record {
  size = r.size;
  after = ext_get_or 0 _ _ (length-permuted p q back ∙ r.size ∙ sym (length-count_from 0 (length p)))
      (λ k h.
      let l : k < length q = subst (λ n. k < n) (length-permuted p q back) h in
      let m : k < length p = subst (λ n. k < n) r.size l in
      let s = stands_in p t k m in
      let b : slice_index q k ≡ s.0 = ap (slice_index q) (sym s.2) ∙ r.at s.0 s.1 in
      index-permuted p q back k l (subst (λ n. slice_index q k < n) r.size (u.within k l)) ∙ ap (slice_index p) b ∙ s.2 ∙ sym (numbered k m));
  before = ext_get_or 0 _ _ (length-permuted q p there ∙ sym (length-count_from 0 (length p)))
      (λ k h.
      let m : k < length p = subst (λ n. k < n) (length-permuted q p there) h in
      index-permuted q p there k m (subst (λ n. slice_index p k < n) (sym r.size) (t.within k m)) ∙ r.at k m ∙ sym (numbered k m));
}
  where
    u : IsPermutation (length q) q
    u = returning_perm p q t r

    back : Under (length p) q
    back = subst (λ n. Under n q) r.size (Under-from (length q) q (λ i h. u.within i h))

    there : Under (length q) p
    there = subst (λ n. Under n p) (sym r.size) (Under-from (length p) p (λ i h. t.within i h))

    numbered : (k : ℕ) → k < length p → slice_index (count_from 0 (length p)) k ≡ k
    numbered k h = index-count_from 0 (length p) k h ∙ omega arith
