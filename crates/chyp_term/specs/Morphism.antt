-- Terms as contracts see them, and their types: the morphisms of the free coloured PROP on generators, as they are written
-- (Mac Lane, Categories for the Working Mathematician, XI; Joyal and Street, The Geometry of Tensor Calculus I).
-- An object is a list of sorts, and all permutations of wires are primitive terms.
use Rattle.std.specs.Prelude.{ℕ, ◌≡◌, List, ◌++◌, length}
use Rattle.chyp_base.specs.declared.sort.Sort.{Sort}
use Rattle.chyp_term.specs.Perm.{IsPermutation, permuted}

-- a generator by its name and type, a permutation of wires, s ; t, and s * t
pub data Morphism : Type 0 where
  generator : (name : List ℕ) (dom cod : List Sort) → Morphism
  permutation : (sorts : List Sort) (places : List ℕ) → Morphism
  then : (s t : Morphism) → Morphism
  beside : (s t : Morphism) → Morphism

-- the domain: the sorts of what goes in
abbrev pub dom : Morphism → List Sort
dom (generator n a b) = a
dom (permutation a p) = a
dom (then s t) = dom s
dom (beside s t) = dom s ++ dom t

-- the codomain: the sorts of what comes out
abbrev pub cod : Morphism → List Sort
cod (generator n a b) = b
cod (permutation a p) = permuted a p
cod (then s t) = cod t
cod (beside s t) = cod s ++ cod t

-- the term has a type, which then goes from its domain to its codomain
abbrev pub IsTyped : Morphism → Type 0
IsTyped (generator n a b) = Unit {0}
IsTyped (permutation a p) = IsPermutation (length a) p
IsTyped (then s t) = IsTyped s × IsTyped t × (cod s ≡ dom t)
IsTyped (beside s t) = IsTyped s × IsTyped t
