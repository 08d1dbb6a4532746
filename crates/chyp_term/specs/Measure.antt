-- How big a term is: its size, its depth, and how many generators stand in it.
use Rattle.std.specs.Prelude.{ℕ, ◌+◌, length, max}
use Rattle.chyp_term.specs.Morphism.{Morphism, generator, permutation, then, beside}

-- one for each generator with one for each of its ports, one for each permutation with one for each of its places,
-- and one for each ; and *
abbrev pub size_of : Morphism → ℕ
size_of (generator n a b) = 1 + (length a + length b)
size_of (permutation a p) = 1 + length p
size_of (then s t) = 1 + (size_of s + size_of t)
size_of (beside s t) = 1 + (size_of s + size_of t)

-- how many terms stand in one another on the longest way down, the whole term among them
abbrev pub depth_of : Morphism → ℕ
depth_of (generator n a b) = 1
depth_of (permutation a p) = 1
depth_of (then s t) = 1 + max (depth_of s) (depth_of t)
depth_of (beside s t) = 1 + max (depth_of s) (depth_of t)

-- how many generators stand in the term, each as often as it stands there
abbrev pub generators_of : Morphism → ℕ
generators_of (generator n a b) = 1
generators_of (permutation a p) = 0
generators_of (then s t) = generators_of s + generators_of t
generators_of (beside s t) = generators_of s + generators_of t
