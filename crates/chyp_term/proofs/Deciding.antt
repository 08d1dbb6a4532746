-- What is decided: equality of lists and of sorts, and whether some list of numbers has a decided property.
use Rattle.std.proofs.Common.{[], ℕ, zero, suc, ◌<◌, ◌≤◌, ◌≡◌, List, ◌∷◌, length, ◌⊎◌, inl, inr, refl, sym, ap, ap₂, subst, arith, true, Option, Some, None, Bool, false}
use Rattle.std.proofs.lemmas.Bool.{cases_eq, cases_lt}
use Rattle.std.specs.List.{AllByRecursion}
use Rattle.chyp_base.specs.declared.sort.Sort.{Sort}
use Rattle.chyp_term.proofs.Permuted.{Under}

-- it holds, or it doesn't
abbrev pub Decided : Type 0 → Type 0
Decided P = P ⊎ (P → ⊥)

pub decided-by : {P Q : Type 0} → (P → Q) → (Q → P) → Decided P → Decided Q
decided-by f g (inl p) = inl (f p)
decided-by f g (inr n) = inr (λ q. n (g q))

pub decide-both : {P Q : Type 0} → Decided P → Decided Q → Decided (P × Q)
decide-both (inl p) (inl q) = inl (p, q)
decide-both (inl p) (inr n) = inr (λ r. n r.1)
decide-both (inr n) d = inr (λ r. n r.0)

pub decide-then : {P Q : Type 0} → Decided P → Decided Q → Decided (P → Q)
decide-then d (inl q) = inl (λ p. q)
decide-then (inl p) (inr n) = inr (λ f. n (f p))
decide-then (inr m) (inr n) = inl (λ p. absurd (m p))

pub decide-less : (i n : ℕ) → Decided (i < n)
decide-less i n = go (cases_lt i n)
  where
    go : (i < n) ⊎ (n ≤ i) → Decided (i < n)
    go (inl h) = inl h
    go (inr h) = inr (λ l. omega arith)

-- what is decided at each number is decided for all below n
pub decide-below : (P : ℕ → Type 0) → ((i : ℕ) → Decided (P i)) → (n : ℕ) → Decided ((i : ℕ) → i < n → P i)
decide-below P d zero = inl (λ i h. absurd (omega arith))
decide-below P d (suc n) = go (decide-below P d n) (d n)
  where
    at : ((i : ℕ) → i < n → P i) → P n → (i : ℕ) → i < suc n → (i ≡ n) ⊎ (i ≡ n → ⊥) → P i
    at f p i h (inl e) = subst P (sym e) p
    at f p i h (inr e) = f i (omega arith)

    go : Decided ((i : ℕ) → i < n → P i) → Decided (P n) → Decided ((i : ℕ) → i < suc n → P i)
    go (inl f) (inl p) = inl (λ i h. at f p i h (cases_eq i n))
    go (inl f) (inr m) = inr (λ r. m (r n (omega arith)))
    go (inr m) e = inr (λ r. m (λ i h. r i (omega arith)))

-- some list of numbers has the property, or none of length n with numbers below m has it
some-list : (P : List ℕ → Type 0) → ((xs : List ℕ) → Decided (P xs)) → (n m : ℕ) → ((xs : List ℕ) × P xs) ⊎ ((xs : List ℕ) → length xs ≡ n → Under m xs → P xs → ⊥)
some-list P d zero m = go (d [])
  where
    go : Decided (P []) → ((xs : List ℕ) × P xs) ⊎ ((xs : List ℕ) → length xs ≡ 0 → Under m xs → P xs → ⊥)
    go (inl p) = inl ([], p)
    go (inr f) = inr none
      where
        none : (xs : List ℕ) → length xs ≡ 0 → Under m xs → P xs → ⊥
        none [] l u p = f p
        none (x ∷ xs) l u p = omega arith
some-list P d (suc n) m = whole (heads m (λ x. some-list (λ xs. P (x ∷ xs)) (λ xs. d (x ∷ xs)) n m))
  where
    heads : (k : ℕ) → ((x : ℕ) → ((xs : List ℕ) × P (x ∷ xs)) ⊎ ((xs : List ℕ) → length xs ≡ n → Under m xs → P (x ∷ xs) → ⊥))
        → ((xs : List ℕ) × P xs) ⊎ ((x : ℕ) (xs : List ℕ) → x < k → length xs ≡ n → Under m xs → P (x ∷ xs) → ⊥)
    heads zero t = inr (λ x xs h l u p. omega arith)
    heads (suc k) t = go (heads k t) (t k)
      where
        at : ((x : ℕ) (xs : List ℕ) → x < k → length xs ≡ n → Under m xs → P (x ∷ xs) → ⊥) → ((xs : List ℕ) → length xs ≡ n → Under m xs → P (k ∷ xs) → ⊥)
            → (x : ℕ) (xs : List ℕ) → x < suc k → length xs ≡ n → Under m xs → P (x ∷ xs) → (x ≡ k) ⊎ (x ≡ k → ⊥) → ⊥
        at a b x xs h l u p (inl e) = b xs l u (subst (λ y. P (y ∷ xs)) e p)
        at a b x xs h l u p (inr e) = a x xs (omega arith) l u p

        go : ((xs : List ℕ) × P xs) ⊎ ((x : ℕ) (xs : List ℕ) → x < k → length xs ≡ n → Under m xs → P (x ∷ xs) → ⊥)
            → ((xs : List ℕ) × P (k ∷ xs)) ⊎ ((xs : List ℕ) → length xs ≡ n → Under m xs → P (k ∷ xs) → ⊥)
            → ((xs : List ℕ) × P xs) ⊎ ((x : ℕ) (xs : List ℕ) → x < suc k → length xs ≡ n → Under m xs → P (x ∷ xs) → ⊥)
        go (inl s) b = inl s
        go (inr a) (inl s) = inl (k ∷ s.0, s.1)
        go (inr a) (inr b) = inr (λ x xs h l u p. at a b x xs h l u p (cases_eq x k))

    whole : ((xs : List ℕ) × P xs) ⊎ ((x : ℕ) (xs : List ℕ) → x < m → length xs ≡ n → Under m xs → P (x ∷ xs) → ⊥)
        → ((xs : List ℕ) × P xs) ⊎ ((xs : List ℕ) → length xs ≡ suc n → Under m xs → P xs → ⊥)
    whole (inl s) = inl s
    whole (inr a) = inr none
      where
        none : (xs : List ℕ) → length xs ≡ suc n → Under m xs → P xs → ⊥
        none [] l u p = omega arith
        none (x ∷ xs) l u p = a x xs u.0 (omega arith) u.1 p

decide-under : (m : ℕ) (xs : List ℕ) → Decided (Under m xs)
decide-under m [] = inl tt
decide-under m (x ∷ xs) = decide-both (decide-less x m) (decide-under m xs)

-- a list of n numbers below m has the property
abbrev pub HasList : ℕ → ℕ → (List ℕ → Type 0) → Type 0
HasList n m P = (xs : List ℕ) × (length xs ≡ n) × (Under m xs) × P xs

-- there is one or there is none
pub decide-list_of : (n m : ℕ) (P : List ℕ → Type 0) → ((xs : List ℕ) → Decided (P xs)) → Decided (HasList n m P)
decide-list_of n m P d = go (some-list (λ xs. (length xs ≡ n) × (Under m xs × P xs)) (λ xs. decide-both (cases_eq (length xs) n) (decide-both (decide-under m xs) (d xs))) n m)
  where
    go : ((xs : List ℕ) × ((length xs ≡ n) × (Under m xs × P xs))) ⊎ ((xs : List ℕ) → length xs ≡ n → Under m xs → ((length xs ≡ n) × (Under m xs × P xs)) → ⊥) → Decided (HasList n m P)
    go (inl s) = inl (s.0, s.1.0, s.1.1.0, s.1.1.1)
    go (inr f) = inr (λ r. f r.0 r.1 r.2 (r.1, (r.2, r.3)))

-- ## equality

pub decide-list : {A : Type 0} → ((x y : A) → Decided (x ≡ y)) → (xs ys : List A) → Decided (xs ≡ ys)
decide-list d [] [] = inl refl
decide-list d [] (y ∷ ys) = inr (λ e. cc)
decide-list d (x ∷ xs) [] = inr (λ e. cc)
decide-list d (x ∷ xs) (y ∷ ys) = go (d x y) (decide-list d xs ys)
  where
    go : Decided (x ≡ y) → Decided (xs ≡ ys) → Decided (x ∷ xs ≡ y ∷ ys)
    go (inl e) (inl f) = inl (ap₂ (λ a b. a ∷ b) e f)
    go (inl e) (inr n) = inr (λ q. n cc)
    go (inr n) f = inr (λ q. n cc)

pub decide-numbers : (xs ys : List ℕ) → Decided (xs ≡ ys)
decide-numbers xs ys = decide-list cases_eq xs ys

pub decide-sort : (a b : Sort) → Decided (a ≡ b)
decide-sort a b = decided-by (λ e. ap (λ n. record { name = n }) e) (λ e. ap (λ (s : Sort). s.name) e) (decide-numbers a.name b.name)

pub decide-sorts : (a b : List Sort) → Decided (a ≡ b)
decide-sorts a b = decide-list decide-sort a b

pub decide-option : {A : Type 0} → ((x y : A) → Decided (x ≡ y)) → (o p : Option A) → Decided (o ≡ p)
decide-option d None None = inl refl
decide-option d None (Some y) = inr (λ e. cc)
decide-option d (Some x) None = inr (λ e. cc)
decide-option d (Some x) (Some y) = decided-by (λ e. ap (λ z. Some z) e) (λ e. cc) (d x y)

pub decide-all : {A : Type 0} (P : A → Type 0) → ((x : A) → Decided (P x)) → (xs : List A) → Decided (AllByRecursion P xs)
decide-all P d [] = inl tt
decide-all P d (x ∷ xs) = decide-both (d x) (decide-all P d xs)

pub decide-true : (b : Bool) → Decided (b ≡ true)
decide-true true = inl refl
decide-true false = inr (λ e. cc)

-- some number below the bound has the property, or none has it
pub search_below : (P : ℕ → Type 0) → ((k : ℕ) → Decided (P k)) → (bound : ℕ) → ((k : ℕ) × (k < bound) × P k) ⊎ ((k : ℕ) → k < bound → P k → ⊥)
search_below P d zero = inr (λ k h p. omega arith)
search_below P d (suc bound) = go (search_below P d bound) (d bound)
  where
    at : ((k : ℕ) → k < bound → P k → ⊥) → (P bound → ⊥) → (k : ℕ) → k < suc bound → P k → (k ≡ bound) ⊎ (k ≡ bound → ⊥) → ⊥
    at f n k h p (inl e) = n (subst P e p)
    at f n k h p (inr e) = f k (omega arith) p

    go : ((k : ℕ) × (k < bound) × P k) ⊎ ((k : ℕ) → k < bound → P k → ⊥) → Decided (P bound)
        → ((k : ℕ) × (k < suc bound) × P k) ⊎ ((k : ℕ) → k < suc bound → P k → ⊥)
    go (inl (k, h, p)) r = inl (k, omega arith, p)
    go (inr f) (inl p) = inl (bound, omega arith, p)
    go (inr f) (inr n) = inr (λ k h p. at f n k h p (cases_eq k bound))
