-- Lists that are read and written at places.
use Rattle.std.proofs.Common.{[], ℕ, zero, suc, ◌+◌, ◌<◌, ◌≡◌, ◌≢◌, Bool, true, false, List, ◌∷◌, ◌++◌, length, take, drop, replicate, append-nil, Some, None, slice_get, slice_index, slice_set}
use Rattle.std.proofs.Common.{◌⊎◌, inl, inr, All, get_or, refl, sym, ◌∙◌, ap, subst, arith, eqb, eq-eqb, ne_eqb}
use Rattle.std.proofs.lemmas.Bool.{cases_eq}
use Rattle.std.proofs.lemmas.List.{take_all, drop_all}
use Rattle.chyp_term.proofs.Closure.{index-get, get-item}

pub get-set_same : {A : Type 0} (xs : List A) (i : ℕ) (x : A) → i < length xs → slice_get (slice_set xs i x) i ≡ Some x
get-set_same [] i x h = absurd (omega arith)
get-set_same (y ∷ xs) zero x h = refl
get-set_same (y ∷ xs) (suc i) x h = get-set_same xs i x (omega arith)

pub get-set_other : {A : Type 0} (xs : List A) (i j : ℕ) (x : A) → j ≢ i → slice_get (slice_set xs i x) j ≡ slice_get xs j
get-set_other [] i j x n = refl
get-set_other (y ∷ xs) zero zero x n = absurd (n refl)
get-set_other (y ∷ xs) zero (suc j) x n = refl
get-set_other (y ∷ xs) (suc i) zero x n = refl
get-set_other (y ∷ xs) (suc i) (suc j) x n = get-set_other xs i j x (λ e. n (ap suc e))

pub get-take : {A : Type 0} (xs : List A) (n i : ℕ) → i < n → slice_get (take n xs) i ≡ slice_get xs i
get-take [] zero i h = refl
get-take [] (suc n) i h = refl
get-take (x ∷ xs) zero i h = absurd (omega arith)
get-take (x ∷ xs) (suc n) zero h = refl
get-take (x ∷ xs) (suc n) (suc i) h = get-take xs n i (omega arith)

-- what holds of all holds of what is read
pub all-is : {A : Type 0} (P : A → Type 0) (xs : List A) (i : ℕ) (x : A) → i < length xs → x ≡ get_or xs i x → All P xs → P x
all-is P xs i x h e a = subst P (sym e) (a i x h)

-- what is written through a slice of a whole list
pub written-back : {A : Type 0} (new old : List A) (n : ℕ) → n ≡ length old → length new ≡ length old → take n (new ++ drop (length new) old) ≡ new
written-back new old n e l = ap (λ m. take n (new ++ m)) (drop_all (length new) old (omega arith)) ∙ ap (take n) (append-nil new) ∙ take_all n new (omega arith)

-- one item more
pub take-suc : {A : Type 0} (xs : List A) (i : ℕ) (x : A) → slice_get xs i ≡ Some x → take (i + 1) xs ≡ take i xs ++ x ∷ []
take-suc {A} xs i x e = let l : i + 1 ≡ suc i = omega arith in ap (λ n. take n xs) l ∙ go xs i e
  where
    go : (xs : List A) (i : ℕ) → slice_get xs i ≡ Some x → take (suc i) xs ≡ take i xs ++ x ∷ []
    go [] i e = cc
    go (y ∷ xs) zero e = let q : y ≡ x = cc in ap (λ z. z ∷ []) q
    go (y ∷ xs) (suc i) e = ap (λ r. y ∷ r) (go xs i e)

pub index-is : (xs : List ℕ) (i x : ℕ) → i < length xs → x ≡ get_or xs i x → x ≡ slice_index xs i
index-is xs i x h e = sym (index-get xs i x (get-item xs i x h e))

pub push-cases : {A : Type 0} (xs : List A) (x : A) (i : ℕ) (y : A) → slice_get (xs ++ x ∷ []) i ≡ Some y → (slice_get xs i ≡ Some y) ⊎ ((i ≡ length xs) × (y ≡ x))
push-cases [] x zero y a = inr (refl, cc)
push-cases [] x (suc i) y a = cc
push-cases (z ∷ xs) x zero y a = inl a
push-cases {A} (z ∷ xs) x (suc i) y a = go (push-cases xs x i y a)
  where
    go : (slice_get xs i ≡ Some y) ⊎ ((i ≡ length xs) × (y ≡ x)) → (slice_get xs i ≡ Some y) ⊎ ((suc i ≡ suc (length xs)) × (y ≡ x))
    go (inl q) = inl q
    go (inr q) = inr (ap suc q.0, q.1)

pub set-cases : {A : Type 0} (xs : List A) (k : ℕ) (x : A) (j : ℕ) (y : A) → k < length xs → slice_get (slice_set xs k x) j ≡ Some y → ((j ≡ k) × (y ≡ x)) ⊎ ((j ≢ k) × (slice_get xs j ≡ Some y))
set-cases {A} xs k x j y b h = go (cases_eq j k)
  where
    go : (j ≡ k) ⊎ (j ≢ k) → ((j ≡ k) × (y ≡ x)) ⊎ ((j ≢ k) × (slice_get xs j ≡ Some y))
    go (inl e) = let s : slice_get (slice_set xs k x) j ≡ Some x = ap (slice_get (slice_set xs k x)) e ∙ get-set_same xs k x b in inl (e, cc)
    go (inr n) = inr (n, sym (get-set_other xs k j x n) ∙ h)

pub get-end : {A : Type 0} (xs : List A) → slice_get xs (length xs) ≡ None
get-end [] = refl
get-end (x ∷ xs) = get-end xs

pub empty-none : {A : Type 0} (xs : List A) (b : Bool) → b ≡ eqb (length xs) 0 → b ≡ true → slice_get xs 0 ≡ None
empty-none [] b e t = refl
empty-none (x ∷ xs) b e t = let n : eqb (suc (length xs)) 0 ≡ false = ne_eqb (suc (length xs)) 0 (λ q. omega arith) in absurd (cc)

pub full-some : {A : Type 0} (xs : List A) (b : Bool) → b ≡ eqb (length xs) 0 → b ≡ false → (x : A) × (slice_get xs 0 ≡ Some x)
full-some [] b e t = let n : eqb 0 0 ≡ true = eq-eqb 0 0 refl in absurd (cc)
full-some (x ∷ xs) b e t = (x, refl)

pub all-same : {A : Type 0} (n : ℕ) (x : A) (xs : List A) → xs ≡ replicate n x → (i : ℕ) (y : A) → slice_get xs i ≡ Some y → y ≡ x
all-same {A} n x xs e i y h = go n i (ap (λ l. slice_get l i) (sym e) ∙ h)
  where
    go : (n i : ℕ) → slice_get (replicate n x) i ≡ Some y → y ≡ x
    go zero i h = cc
    go (suc n) zero h = cc
    go (suc n) (suc i) h = go n i h
