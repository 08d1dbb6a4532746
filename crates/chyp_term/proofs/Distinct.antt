-- Lists of distinct numbers.
use Rattle.std.proofs.Common.{ℕ, zero, suc, ◌+◌, ◌<◌, ◌≤◌, ◌≡◌, Bool, true, false, cond, eqb, ◌||◌, List, [], ◌∷◌, ◌++◌, length, filter, Option, Some, None}
use Rattle.std.proofs.Common.{option_map, slice_get, slice_index, ◌⊎◌, inl, inr, refl, sym, ◌∙◌, ap, arith, eq-eqb, ne_eqb}
use Rattle.std.proofs.lemmas.Bool.{cases_Bool}
use Rattle.std.specs.List.{IsDistinct, AllByRecursion, list_any}
use Rattle.chyp_term.specs.Perm.{count_from}
use Rattle.chyp_term.specs.Positions.{place_of}

pub place-off : (x y : ℕ) (s : List ℕ) → place_of y (x ∷ s) ≡ None → (eqb x y ≡ false) × (place_of y s ≡ None)
place-off x y s e = go (cases_Bool (eqb x y))
  where
    back : (o : Option ℕ) → option_map suc o ≡ None → o ≡ None
    back None e = refl
    back (Some i) e = cc

    go : (eqb x y ≡ true) ⊎ (eqb x y ≡ false) → (eqb x y ≡ false) × (place_of y s ≡ None)
    go (inl b) = let f : ◌≡◌ {A = Option ℕ} (Some 0) None = ap (λ c. cond c (Some 0) (option_map suc (place_of y s))) (sym b) ∙ e in cc
    go (inr b) = (b, back (place_of y s) (ap (λ c. cond c (Some 0) (option_map suc (place_of y s))) (sym b) ∙ e))

pub all-append : {A : Type 0} (P : A → Type 0) (xs ys : List A) → AllByRecursion P xs → AllByRecursion P ys → AllByRecursion P (xs ++ ys)
all-append P [] ys a b = b
all-append P (x ∷ xs) ys a b = (a.0, all-append P xs ys a.1 b)

pub all-map : {A : Type 0} (P Q : A → Type 0) → ((x : A) → P x → Q x) → (xs : List A) → AllByRecursion P xs → AllByRecursion Q xs
all-map P Q f [] a = tt
all-map P Q f (x ∷ xs) a = (f x a.0, all-map P Q f xs a.1)

pub distinct-append : (s q : List ℕ) → IsDistinct eqb s → IsDistinct eqb q → AllByRecursion (λ y. place_of y s ≡ None) q → IsDistinct eqb (s ++ q)
unfolding IsDistinct
distinct-append [] q a b c = b
distinct-append (x ∷ s) q a b c = (
  all-append (λ y. eqb x y ≡ false) s q a.0 (all-map (λ y. place_of y (x ∷ s) ≡ None) (λ y. eqb x y ≡ false) (λ y e. (place-off x y s e).0) q c),
  distinct-append s q a.1 b (all-map (λ y. place_of y (x ∷ s) ≡ None) (λ y. place_of y s ≡ None) (λ y e. (place-off x y s e).1) q c),
)

pub all-filter : (p : ℕ → Bool) (P : ℕ → Type 0) (k n : ℕ) → ((i : ℕ) → k ≤ i → i < k + n → p i ≡ true → P i) → AllByRecursion P (filter p (count_from k n))
all-filter p P k zero h = tt
all-filter p P k (suc n) h = go (p k) refl (all-filter p P (suc k) n (λ i a b e. h i (omega arith) (omega arith) e))
  where
    go : (b : Bool) → p k ≡ b → AllByRecursion P (filter p (count_from (suc k) n)) → AllByRecursion P (cond b (k ∷ filter p (count_from (suc k) n)) (filter p (count_from (suc k) n)))
    go true e a = (h k (omega arith) (omega arith) e, a)
    go false e a = a

pub distinct-filter : (p : ℕ → Bool) (k n : ℕ) → IsDistinct eqb (filter p (count_from k n))
unfolding IsDistinct
distinct-filter p k zero = tt
distinct-filter p k (suc n) = go (p k) (distinct-filter p (suc k) n)
  where
    go : (b : Bool) → IsDistinct eqb (filter p (count_from (suc k) n)) → IsDistinct eqb (cond b (k ∷ filter p (count_from (suc k) n)) (filter p (count_from (suc k) n)))
    go true a = (all-filter p (λ y. eqb k y ≡ false) (suc k) n (λ i b c e. ne_eqb k i (λ q. omega arith)), a)
    go false a = a

pub any-append_left : (k : ℕ) (s q : List ℕ) → list_any (eqb k) s ≡ true → list_any (eqb k) (s ++ q) ≡ true
any-append_left k [] q e = cc
any-append_left k (x ∷ s) q e = go (eqb k x) (any-append_left k s q) e
  where
    go : (b : Bool) → (list_any (eqb k) s ≡ true → list_any (eqb k) (s ++ q) ≡ true) → (b || list_any (eqb k) s) ≡ true → (b || list_any (eqb k) (s ++ q)) ≡ true
    go true ih e = refl
    go false ih e = ih e

pub any-append_right : (k : ℕ) (s q : List ℕ) → list_any (eqb k) q ≡ true → list_any (eqb k) (s ++ q) ≡ true
any-append_right k [] q e = e
any-append_right k (x ∷ s) q e = go (eqb k x) (any-append_right k s q e)
  where
    go : (b : Bool) → list_any (eqb k) (s ++ q) ≡ true → (b || list_any (eqb k) (s ++ q)) ≡ true
    go true e = refl
    go false e = e

pub any-get : (k : ℕ) (s : List ℕ) (j : ℕ) → slice_get s j ≡ Some k → list_any (eqb k) s ≡ true
any-get k [] j e = cc
any-get k (x ∷ s) zero e = let q : k ≡ x = cc in rw (eq-eqb k x q) refl
any-get k (x ∷ s) (suc j) e = go (eqb k x) (any-get k s j e)
  where
    go : (b : Bool) → list_any (eqb k) s ≡ true → (b || list_any (eqb k) s) ≡ true
    go true e = refl
    go false e = e

pub all-index : (x : ℕ) (xs : List ℕ) → AllByRecursion (λ y. eqb x y ≡ false) xs → (i : ℕ) → i < length xs → x ≡ slice_index xs i → ⊥
all-index x [] a i h e = omega arith
all-index x (y ∷ xs) a zero h e = let q = eq-eqb x y e in let r = a.0 in cc
all-index x (y ∷ xs) a (suc i) h e = all-index x xs a.1 i (omega arith) e

pub distinct-index : (xs : List ℕ) → IsDistinct eqb xs → (i j : ℕ) → i < length xs → j < length xs → slice_index xs i ≡ slice_index xs j → i ≡ j
unfolding IsDistinct
distinct-index [] d i j h l e = absurd (omega arith)
distinct-index (x ∷ xs) d zero zero h l e = refl
distinct-index (x ∷ xs) d zero (suc j) h l e = absurd (all-index x xs d.0 j (omega arith) e)
distinct-index (x ∷ xs) d (suc i) zero h l e = absurd (all-index x xs d.0 i (omega arith) (sym e))
distinct-index (x ∷ xs) d (suc i) (suc j) h l e = ap suc (distinct-index xs d.1 i j (omega arith) (omega arith) e)
