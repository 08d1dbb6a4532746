-- Lists of numbers that are apart.
use Rattle.std.proofs.Common.{[], ℕ, zero, suc, ◌+◌, ◌<◌, ◌≤◌, ◌≡◌, List, ◌∷◌, ◌++◌, map, length, flat_map, Option, Some, None, slice_get, slice_index, refl, sym, ap₂, subst, arith, eq-eqb}
use Rattle.std.proofs.Common.{ne_eqb, ◌∙◌, ap}
use Rattle.std.specs.List.{AllByRecursion}
use Rattle.chyp_term.specs.Perm.{count_from}
use Rattle.chyp_term.specs.Positions.{place_of}
use Rattle.chyp_term.proofs.Distinct.{all-append, all-map}
use Rattle.chyp_term.proofs.Positions.{map-id}
use Rattle.chyp_term.proofs.Rearrangement.{Rearr, end, skip, turn, join, Rearr-all, all-count}

-- no two of the numbers are equal
abbrev pub Apart : List ℕ → Type 0
Apart [] = Unit {0}
Apart (x ∷ xs) = AllByRecursion (λ y. ¬ (x ≡ y)) xs × Apart xs

pub all-split : {A : Type 0} (P : A → Type 0) (xs ys : List A) → AllByRecursion P (xs ++ ys) → AllByRecursion P xs × AllByRecursion P ys
all-split P [] ys a = (tt, a)
all-split P (x ∷ xs) ys a = let h = all-split P xs ys a.1 in ((a.0, h.0), h.1)

pub all-index : (P : ℕ → Type 0) (xs : List ℕ) → AllByRecursion P xs → (i : ℕ) → i < length xs → P (slice_index xs i)
all-index P [] a i h = absurd (omega arith)
all-index P (x ∷ xs) a zero h = a.0
all-index P (x ∷ xs) a (suc i) h = all-index P xs a.1 i (omega arith)

pub Rearr-Apart : {xs ys : List ℕ} → Rearr xs ys → Apart xs → Apart ys
Rearr-Apart end a = a
Rearr-Apart (skip x r) a = (Rearr-all (λ y. ¬ (x ≡ y)) r a.0, Rearr-Apart r a.1)
Rearr-Apart (turn x y xs) a = (((λ e. a.0.0 (sym e)), a.1.0), (a.0.1, a.1.1))
Rearr-Apart (join r q) a = Rearr-Apart q (Rearr-Apart r a)

pub Apart-append : (xs ys : List ℕ) → Apart xs → Apart ys → AllByRecursion (λ x. AllByRecursion (λ y. ¬ (x ≡ y)) ys) xs → Apart (xs ++ ys)
Apart-append [] ys a b c = b
Apart-append (x ∷ xs) ys a b c = (all-append (λ y. ¬ (x ≡ y)) xs ys a.0 c.0, Apart-append xs ys a.1 b c.1)

pub Apart-split : (xs ys : List ℕ) → Apart (xs ++ ys) → Apart xs × Apart ys × AllByRecursion (λ x. AllByRecursion (λ y. ¬ (x ≡ y)) ys) xs
Apart-split [] ys a = (tt, a, tt)
Apart-split (x ∷ xs) ys a = let h = Apart-split xs ys a.1 in let q = all-split (λ y. ¬ (x ≡ y)) xs ys a.0 in ((q.0, h.0), h.1, (q.1, h.2))

-- each of ys is none of xs
pub apart-turned : (xs ys : List ℕ) → AllByRecursion (λ x. AllByRecursion (λ y. ¬ (x ≡ y)) ys) xs → AllByRecursion (λ y. AllByRecursion (λ x. ¬ (y ≡ x)) xs) ys
apart-turned xs [] a = tt
apart-turned xs (y ∷ ys) a = (
  all-map (λ x. AllByRecursion (λ z. ¬ (x ≡ z)) (y ∷ ys)) (λ x. ¬ (y ≡ x)) (λ x h e. h.0 (sym e)) xs a,
  apart-turned xs ys (all-map (λ x. AllByRecursion (λ z. ¬ (x ≡ z)) (y ∷ ys)) (λ x. AllByRecursion (λ z. ¬ (x ≡ z)) ys) (λ x h. h.1) xs a),
)

-- f tells the n numbers from k on apart
pub Apart-count : (f : ℕ → ℕ) (k n : ℕ) → ((i j : ℕ) → k ≤ i → i < k + n → k ≤ j → j < k + n → f i ≡ f j → i ≡ j) → Apart (map f (count_from k n))
Apart-count f k zero h = tt
Apart-count f k (suc n) h = (
  all-count (λ y. ¬ (f k ≡ y)) f (suc k) n (λ i a b e. let q = h k i (omega arith) (omega arith) (omega arith) (omega arith) e in omega arith),
  Apart-count f (suc k) n (λ i j a b c d. h i j (omega arith) (omega arith) (omega arith) (omega arith)),
)

-- the numbers below n
pub numbers_apart : (n : ℕ) → Apart (count_from 0 n)
numbers_apart n = subst Apart (map-id (count_from 0 n)) (Apart-count (λ x. x) 0 n (λ i j a b c d e. e))

-- ## places

pub place-of_index : (xs : List ℕ) → Apart xs → (i : ℕ) → i < length xs → place_of (slice_index xs i) xs ≡ Some i
place-of_index [] a i h = absurd (omega arith)
place-of_index (x ∷ xs) a zero h = rw (eq-eqb x x refl) refl
place-of_index (x ∷ xs) a (suc i) h =
    rw (ne_eqb x (slice_index xs i) (all-index (λ y. ¬ (x ≡ y)) xs a.0 i (omega arith)), place-of_index xs a.1 i (omega arith)) refl

pub place-of_none : (w : ℕ) (xs : List ℕ) → AllByRecursion (λ x. ¬ (w ≡ x)) xs → place_of w xs ≡ None
place-of_none w [] a = refl
place-of_none w (x ∷ xs) a = rw (ne_eqb x w (λ e. a.0 (sym e)), place-of_none w xs a.1) refl

-- a list is the image of another, place by place
pub map-by_index : (h : ℕ → ℕ) (xs ys : List ℕ) → length xs ≡ length ys → ((i : ℕ) → i < length xs → h (slice_index xs i) ≡ slice_index ys i) → map h xs ≡ ys
map-by_index h [] [] q f = refl
map-by_index h [] (y ∷ ys) q f = absurd (omega arith)
map-by_index h (x ∷ xs) [] q f = absurd (omega arith)
map-by_index h (x ∷ xs) (y ∷ ys) q f = ap₂ (λ a b. a ∷ b) (f 0 (omega arith)) (map-by_index h xs ys (omega arith) (λ i l. f (suc i) (omega arith)))

-- what holds of all items of all lists holds of those of one
pub all-flat : {A B : Type 0} (P : B → Type 0) (f : A → List B) (xs : List A) (k : ℕ) (x : A) → slice_get xs k ≡ Some x → AllByRecursion P (flat_map f xs)
    → AllByRecursion P (f x)
all-flat P f [] k x e a = cc
all-flat P f (y ∷ xs) zero x e a = let q : y ≡ x = cc in subst (λ z. AllByRecursion P (f z)) q (all-split P (f y) (flat_map f xs) a).0
all-flat P f (y ∷ xs) (suc k) x e a = all-flat P f xs k x e (all-split P (f y) (flat_map f xs) a).1

pub all-mapped : (P Q : ℕ → Type 0) (f : ℕ → ℕ) → ((x : ℕ) → P x → Q (f x)) → (xs : List ℕ) → AllByRecursion P xs → AllByRecursion Q (map f xs)
all-mapped P Q f h [] a = tt
all-mapped P Q f h (x ∷ xs) a = (h x a.0, all-mapped P Q f h xs a.1)

pub Apart-index : (xs : List ℕ) → Apart xs → (i j : ℕ) → i < length xs → j < length xs → slice_index xs i ≡ slice_index xs j → i ≡ j
Apart-index xs a i j h l e = some i j (sym (place-of_index xs a i h) ∙ ap (λ w. place_of w xs) e ∙ place-of_index xs a j l)
  where
    some : (x y : ℕ) → ◌≡◌ {A = Option ℕ} (Some x) (Some y) → x ≡ y
    some x y e = cc
