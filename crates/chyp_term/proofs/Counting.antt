-- Lists of numbers that count on, and the swap of two blocks.
use Rattle.std.proofs.Common.{ℕ, zero, suc, ◌+◌, ◌-◌, ◌<◌, ◌≤◌, ◌≡◌, List, [], ◌∷◌, ◌++◌, length, slice_index, ◌⊎◌, inl, inr, sym, ◌∙◌, ap, ap₂, subst, arith}
use Rattle.std.proofs.Common.{length-append, add-zero, zero-add, add-suc, suc-add}
use Rattle.std.proofs.lemmas.List.{append_assoc, get_or_append_left, get_or-append_right}
use Rattle.std.proofs.lemmas.Bool.{cases_lt}
use Rattle.chyp_term.specs.Perm.{IsPermutation, count_from, swapped}
use Rattle.chyp_term.proofs.Permuted.{length-count_from}

-- the number at a place
pub index-count_from : (k n i : ℕ) → i < n → slice_index (count_from k n) i ≡ k + i
index-count_from k zero i h = absurd (omega arith)
index-count_from k (suc n) zero h = sym (add-zero k)
index-count_from k (suc n) (suc i) h = index-count_from (suc k) n i (omega arith) ∙ suc-add k i ∙ sym (add-suc k i)

-- one number more
pub count_from-push : (k n : ℕ) → count_from k (suc n) ≡ count_from k n ++ (k + n) ∷ []
count_from-push k zero = ap (λ j. j ∷ []) (sym (add-zero k))
count_from-push k (suc n) = ap (λ r. k ∷ r) (count_from-push (suc k) n ∙ ap (λ j. count_from (suc k) n ++ j ∷ []) (suc-add k n ∙ sym (add-suc k n)))

pub count_from-more : (old items new : List ℕ) (start place : ℕ) → start ≤ place → items ≡ old ++ count_from start (place - start) → new ≡ items ++ place ∷ []
    → new ≡ old ++ count_from start (place + 1 - start)
count_from-more old items new start place h i n =
    let counted : place + 1 - start ≡ suc (place - start) = omega arith in
    let last : start + (place - start) ≡ place = omega arith in
    let more : count_from start (place + 1 - start) ≡ count_from start (place - start) ++ place ∷ [] =
    ap (count_from start) counted ∙ count_from-push start (place - start) ∙ ap (λ j. count_from start (place - start) ++ j ∷ []) last in
    n ∙ ap (λ r. r ++ place ∷ []) i ∙ append_assoc old (count_from start (place - start)) (place ∷ []) ∙ ap (λ r. old ++ r) (sym more)

-- the swap of two blocks is a permutation
pub swapped_perm : (m n : ℕ) → IsPermutation (m + n) (swapped m n)
swapped_perm m n = record {
  size = length-append (count_from m n) (count_from 0 m) ∙ ap₂ (λ x y. x + y) (length-count_from m n) (length-count_from 0 m) ∙ omega arith;
  within = λ i h. within i h (cases_lt i n);
  apart = λ i j h l e. apart i j h l (cases_lt i n) (cases_lt j n) e;
}
  where
    front : (i : ℕ) → i < n → slice_index (swapped m n) i ≡ m + i
    front i h = get_or_append_left (count_from m n) (count_from 0 m) 0 i (subst (λ k. i < k) (sym (length-count_from m n)) h) ∙ index-count_from m n i h

    rear : (i : ℕ) → i < m + n → n ≤ i → slice_index (swapped m n) i ≡ i - n
    rear i h l = get_or-append_right (count_from m n) (count_from 0 m) n i 0 (length-count_from m n) l ∙ index-count_from 0 m (i - n) (omega arith) ∙ zero-add (i - n)

    within : (i : ℕ) → i < m + n → (i < n) ⊎ (n ≤ i) → slice_index (swapped m n) i < m + n
    within i h (inl a) = let b = front i a in omega arith
    within i h (inr a) = let b = rear i h a in omega arith

    apart : (i j : ℕ) → i < m + n → j < m + n → (i < n) ⊎ (n ≤ i) → (j < n) ⊎ (n ≤ j) → slice_index (swapped m n) i ≡ slice_index (swapped m n) j → i ≡ j
    apart i j h l (inl a) (inl b) e = let c = front i a in let d = front j b in omega arith
    apart i j h l (inl a) (inr b) e = let c = front i a in let d = rear j l b in absurd (omega arith)
    apart i j h l (inr a) (inl b) e = let c = rear i h a in let d = front j b in absurd (omega arith)
    apart i j h l (inr a) (inr b) e = let c = rear i h a in let d = rear j l b in omega arith

-- a list that is made of the two blocks is a permutation
pub blocks_perm : (m n : ℕ) (none second both all : List ℕ) → none ≡ [] → second ≡ none ++ count_from m (m + n - m) → both ≡ second ++ count_from 0 (m - 0)
    → all ≡ both → IsPermutation (length all) all
blocks_perm m n none second both all a b c d =
    let second_block : m + n - m ≡ n = omega arith in
    let first_block : m - 0 ≡ m = omega arith in
    let first_made : second ≡ count_from m n = b ∙ ap (λ r. r ++ count_from m (m + n - m)) a ∙ ap (count_from m) second_block in
    let made : all ≡ swapped m n = d ∙ c ∙ ap₂ (λ x y. x ++ y) first_made (ap (count_from 0) first_block) in
    let t = swapped_perm m n in
    subst (λ l. IsPermutation (length l) l) (sym made) (subst (λ k. IsPermutation k (swapped m n)) (sym t.size) t)
