-- What is reached is fewer than what reaches it.
use Rattle.std.proofs.Common.{◌≡◌, ℕ, zero, suc, ◌+◌, ◌<◌, ◌≤◌, Bool, true, false, cond, List, [], ◌∷◌, slice_index_or, refl, arith}
use Rattle.std.proofs.lemmas.Bool.{false≢true}
use Rattle.std.proofs.lemmas.List.Sums.{sum_by-cons}
use Rattle.std.specs.List.{count_by}
use Rattle.chyp_reach.specs.Relation.{count_from, relates}

abbrev count : List Bool → ℕ
count xs = count_by (λ (mark : Bool). mark) xs

-- all that are marked in the one list are marked in the other
abbrev AreMarkedIn : List Bool → List Bool → Type 0
AreMarkedIn ys xs = (n : ℕ) → slice_index_or xs n false ≡ true → slice_index_or ys n false ≡ true

one-more : (xs : List Bool) → count (true ∷ xs) ≡ 1 + count xs
one-more xs = sum_by-cons (λ (m : Bool). cond m 1 0) true xs

no-other : (xs : List Bool) → count (false ∷ xs) ≡ count xs
no-other xs = refl

none-counted : (xs : List Bool) → AreMarkedIn [] xs → count xs ≡ 0
none-counted [] f = refl
none-counted (true ∷ xs) f = absurd (false≢true (f 0 refl))
none-counted (false ∷ xs) f = none-counted xs (λ n e. f (suc n) e)

no-more : (xs ys : List Bool) → AreMarkedIn ys xs → count xs ≤ count ys
no-more xs [] f = let none = none-counted xs f in omega (arith, one-more, no-other)
no-more [] (y ∷ ys) f = omega (arith, one-more, no-other)
no-more (true ∷ xs) (true ∷ ys) f = let rest = no-more xs ys (λ n e. f (suc n) e) in omega (arith, one-more, no-other)
no-more (true ∷ xs) (false ∷ ys) f = absurd (false≢true (f 0 refl))
no-more (false ∷ xs) (true ∷ ys) f = let rest = no-more xs ys (λ n e. f (suc n) e) in omega (arith, one-more, no-other)
no-more (false ∷ xs) (false ∷ ys) f = no-more xs ys (λ n e. f (suc n) e)

fewer : (xs ys : List Bool) (k : ℕ) → AreMarkedIn ys xs → slice_index_or ys k false ≡ true → slice_index_or xs k false ≡ false → count xs < count ys
fewer xs [] k f e n = absurd (false≢true e)
fewer [] (true ∷ ys) zero f e n = omega (arith, one-more, no-other)
fewer [] (false ∷ ys) zero f e n = absurd (false≢true e)
fewer [] (true ∷ ys) (suc k) f e n = omega (arith, one-more, no-other)
fewer [] (false ∷ ys) (suc k) f e n = fewer [] ys k (λ m g. absurd (false≢true g)) e n
fewer (true ∷ xs) (y ∷ ys) zero f e n = absurd (false≢true (cc))
fewer (false ∷ xs) (true ∷ ys) zero f e n = let rest = no-more xs ys (λ m g. f (suc m) g) in omega (arith, one-more, no-other)
fewer (false ∷ xs) (false ∷ ys) zero f e n = absurd (false≢true e)
fewer (true ∷ xs) (true ∷ ys) (suc k) f e n = let rest = fewer xs ys k (λ m g. f (suc m) g) e n in omega (arith, one-more, no-other)
fewer (true ∷ xs) (false ∷ ys) (suc k) f e n = absurd (false≢true (f 0 refl))
fewer (false ∷ xs) (true ∷ ys) (suc k) f e n = let rest = fewer xs ys k (λ m g. f (suc m) g) e n in omega (arith, one-more, no-other)
fewer (false ∷ xs) (false ∷ ys) (suc k) f e n = fewer xs ys k (λ m g. f (suc m) g) e n

-- a number that doesn't lead to itself leads to fewer than one that leads to it, and to all to which it leads
pub fewer-reached : (rows : List (List Bool)) (i k : ℕ) → ((j : ℕ) → relates rows k j ≡ true → relates rows i j ≡ true)
    → relates rows i k ≡ true → relates rows k k ≡ false → count_from rows k < count_from rows i
fewer-reached rows i k f e n = fewer (slice_index_or rows k []) (slice_index_or rows i []) k f e n
