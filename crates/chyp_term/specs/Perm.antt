-- Permutations as lists of places: [p0, p1, ..] sends wire p0 to place 0, wire p1 to place 1, and so on.
use Rattle.std.specs.Prelude.{ℕ, zero, suc, ◌+◌, ◌<◌, ◌≡◌, List, [], ◌∷◌, ◌++◌, map, length, slice_get, slice_index, filter_map}

-- the n numbers from k on
abbrev pub count_from : ℕ → ℕ → List ℕ
count_from k zero = []
count_from k (suc n) = k ∷ count_from (suc k) n

-- the items of xs at the places of p: [xs[p0], xs[p1], ..]
abbrev pub permuted : {A : Type 0} → List A → List ℕ → List A
permuted xs p = filter_map (slice_get xs) p

-- p is a permutation of 0 to n-1: n places, each below n, no two equal
pub record IsPermutation (n : ℕ) (p : List ℕ) : Type 0 where
  pub size : length p ≡ n
  pub within : (i : ℕ) → i < n → slice_index p i < n
  pub apart : (i j : ℕ) → i < n → j < n → slice_index p i ≡ slice_index p j → i ≡ j

-- each place moved on by n
abbrev pub shifted : ℕ → List ℕ → List ℕ
shifted n p = map (λ k. n + k) p

-- the permutation that swaps a block of m wires with the block of n wires after it
abbrev pub swapped : ℕ → ℕ → List ℕ
swapped m n = count_from m n ++ count_from 0 m

-- q is the inverse of p: it is as long, and each of them after the other moves nothing
pub record IsInverse (p q : List ℕ) : Type 0 where
  pub size : length q ≡ length p
  pub after : permuted p q ≡ count_from 0 (length p)
  pub before : permuted q p ≡ count_from 0 (length p)
