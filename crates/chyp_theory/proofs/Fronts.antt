-- Permutations by their fronts: distinct places can be brought to the front, what fixes the front permutes the rest, and two
-- permutations with one front differ by a permutation of the rest.
use Rattle.std.proofs.Common.{ℕ, zero, suc, ◌+◌, ◌-◌, ◌<◌, ◌≤◌, ◌≡◌, true, not, eqb, List, [], ◌∷◌, ◌++◌, map, length, take, drop, Option, Some, None, slice_index}
use Rattle.std.proofs.Common.{◌⊎◌, inl, inr, refl, sym, ◌∙◌, ap, ap₂, subst, arith, take-append-drop, length-drop, get_or-take, get_or-drop}
use Rattle.std.proofs.lemmas.List.{length-map, get_or-map}
use Rattle.std.proofs.lemmas.Bool.{cases_lt}
use Rattle.std.specs.List.{IsDistinct, list_any}
use Rattle.std.proofs.lemmas.Map.Steps.{length-le_from_distinct_below, le-length_from_below}
use Rattle.chyp_term.specs.Perm.{IsPermutation, count_from, permuted, shifted}
use Rattle.chyp_term.specs.Positions.{is_apart, is_there, place_of}
use Rattle.chyp_term.proofs.Closure.{Under-perm, compose_perm, index-get}
use Rattle.chyp_term.proofs.Distinct.{all-filter, any-append_left, any-append_right, any-get, distinct-append, distinct-filter, distinct-index}
use Rattle.chyp_term.proofs.Inverses.{Under-append, Under-index, Undoes, Undoes-sym, any-below, from_perm, get-count0, permuted-numbers, place-found, to_perm}
use Rattle.chyp_term.proofs.Permuted.{Under, found, permuted-permuted}
use Rattle.chyp_term.proofs.Positions.{Under-filter, apart-none, kept-get, upto}

pub count-index : (n i : ℕ) → i < n → slice_index (count_from 0 n) i ≡ i
count-index n i h = index-get (count_from 0 n) i i (get-count0 n i h)

-- a permutation that leaves the first m is one of the others
pub fixes_front : (m n : ℕ) (v : List ℕ) → IsPermutation (m + n) v → take m v ≡ count_from 0 m → (w : List ℕ) × IsPermutation n w × (v ≡ count_from 0 m ++ shifted m w)
fixes_front m n v t f = (
  w,
  record {
    size = w_size;
    within = λ i h. rw (w_at i h)
        (let a = past i h in let b = t.within (m + i) (omega arith) in omega arith);
    apart = λ i j h l e. w_apart i j h l (sym (w_at i h) ∙ e ∙ w_at j l);
  },
  v_is,
)
  where
    w : List ℕ
    w = map (λ k. k - m) (drop m v)

    rest_size : length (drop m v) ≡ n
    rest_size = let z = t.size in length-drop m v ∙ omega arith

    w_size : length w ≡ n
    w_size = length-map (drop m v) (λ k. k - m) ∙ rest_size

    front : (k : ℕ) → k < m → slice_index v k ≡ k
    front k h = sym (get_or-take m v k 0 h) ∙ ap (λ l. slice_index l k) f ∙ count-index m k h

    past : (i : ℕ) → i < n → m ≤ slice_index v (m + i)
    past i h = go (cases_lt (slice_index v (m + i)) m)
      where
        go : (slice_index v (m + i) < m) ⊎ (m ≤ slice_index v (m + i)) → m ≤ slice_index v (m + i)
        go (inl l) = let q : slice_index v (m + i) ≡ m + i = t.apart (slice_index v (m + i)) (m + i) (omega arith) (omega arith) (front _ l) in absurd (omega arith)
        go (inr l) = l

    w_at : (i : ℕ) → i < n → slice_index w i ≡ slice_index v (m + i) - m
    w_at i h = get_or-map (λ k. k - m) (drop m v) i 0 0 (subst (λ z. i < z) (sym rest_size) h) ∙ ap (λ k. k - m) (get_or-drop m v i 0)

    w_apart : (i j : ℕ) → i < n → j < n → slice_index v (m + i) - m ≡ slice_index v (m + j) - m → i ≡ j
    w_apart i j h l e =
        let a = past i h in let b = past j l in
        let q : m + i ≡ m + j = t.apart (m + i) (m + j) (omega arith) (omega arith) (omega arith) in omega arith

    same : (xs : List ℕ) → ((i : ℕ) → i < length xs → m ≤ slice_index xs i) → xs ≡ shifted m (map (λ k. k - m) xs)
    same [] h = refl
    same (x ∷ xs) h = ap₂ (λ a b. a ∷ b) (let q = h 0 (omega arith) in omega arith) (same xs (λ i l. h (suc i) (omega arith)))

    v_is : v ≡ count_from 0 m ++ shifted m w
    v_is = sym (take-append-drop m v) ∙ ap₂ (λ a b. a ++ b) f (same (drop m v) (λ i l. subst (λ x. m ≤ x) (sym (get_or-drop m v i 0)) (past i (subst (λ z. i < z) rest_size l))))

-- distinct places, brought to the front
pub bring : (n : ℕ) (s : List ℕ) → Under n s → IsDistinct eqb s → (q : List ℕ) × IsPermutation n (s ++ q)
bring n s u d = (
  q,
  record {
    size = size;
    within = λ i h. Under-index n (s ++ q) below i (subst (λ z. i < z) (sym size) h);
    apart = λ i j h l e. distinct-index
        (s ++ q) apart i j (subst (λ z. i < z) (sym size) h) (subst (λ z. j < z) (sym size) l) e;
  },
)
  where
    q : List ℕ
    q = upto (is_apart s) n

    below : Under n (s ++ q)
    below = Under-append n s q u (Under-filter (is_apart s) n 0 n (omega arith))

    apart : IsDistinct eqb (s ++ q)
    apart = distinct-append s q d (distinct-filter (is_apart s) 0 n) (all-filter (is_apart s) (λ y. place_of y s ≡ None) 0 n (λ i a b e. apart-none s i e))

    all : (k : ℕ) → k < n → list_any (eqb k) (s ++ q) ≡ true
    all k h = go (place_of k s) refl
      where
        go : (o : Option ℕ) → place_of k s ≡ o → list_any (eqb k) (s ++ q) ≡ true
        go (Some j) e = any-append_left k s q (any-get k s j (place-found k s j e))
        go None e = any-append_right k s q (any-get k q _ (kept-get (is_apart s) n k h (ap (λ o. not (is_there o)) e)))

    size : length (s ++ q) ≡ n
    size =
        let a = length-le_from_distinct_below (s ++ q) n apart (λ k e. any-below n k (s ++ q) below e) in
        let b = le-length_from_below (s ++ q) n all in
        omega arith

-- the front of what is permuted
pub take-permuted : {A : Type 0} (xs : List A) (p : List ℕ) (m : ℕ) → Under (length xs) p → take m (permuted xs p) ≡ permuted xs (take m p)
take-permuted xs p zero u = refl
take-permuted xs [] (suc m) u = refl
take-permuted xs (k ∷ p) (suc m) u = let f = found xs k u.0 in rw f.1 (ap (λ r. f.0 ∷ r) (take-permuted xs p m u.1))

pub take-count : (k m n : ℕ) → m ≤ n → take m (count_from k n) ≡ count_from k m
take-count k zero n h = refl
take-count k (suc m) zero h = absurd (omega arith)
take-count k (suc m) (suc n) h = ap (λ r. k ∷ r) (take-count (suc k) m n (omega arith))

-- permutations with one front differ behind it
pub record Differs (n m : ℕ) (p q : List ℕ) : Type 0 where
  pub rest : List ℕ
  pub perm : IsPermutation n rest
  pub all : IsPermutation (m + n) (count_from 0 m ++ shifted m rest)
  pub is : q ≡ permuted p (count_from 0 m ++ shifted m rest)

pub differ : (m n : ℕ) (p q : List ℕ) → IsPermutation (m + n) p → IsPermutation (m + n) q → take m q ≡ take m p → Differs n m p q
differ m n p q tp tq e = record { rest = w.0; perm = w.1; all = subst (IsPermutation (m + n)) w.2 tv; is = q-is ∙ ap (permuted p) w.2 }
  where
    iv : List ℕ
    iv = (from_perm (m + n) p tp).0

    un : Undoes (m + n) p iv
    un = (from_perm (m + n) p tp).1

    v : List ℕ
    v = permuted iv q

    tv : IsPermutation (m + n) v
    tv = compose_perm (m + n) iv q (to_perm (Undoes-sym un)) tq

    front : take m v ≡ count_from 0 m
    front =
        take-permuted iv q m (subst (λ k. Under k q) (sym un.back_size) (Under-perm _ q tq)) ∙ ap (permuted iv) e
        ∙ sym (take-permuted iv p m (subst (λ k. Under k p) (sym un.back_size) un.under)) ∙ ap (take m) un.here ∙ take-count 0 m (m + n) (omega arith)

    w : (w : List ℕ) × IsPermutation n w × (v ≡ count_from 0 m ++ shifted m w)
    w = fixes_front m n v tv front

    q-is : q ≡ permuted p v
    q-is = sym (sym (permuted-permuted p iv (subst (λ k. Under k iv) (sym un.size) un.back_under) q) ∙ ap (λ l. permuted l q) un.there ∙ permuted-numbers (m + n) q (Under-perm _ q tq))
