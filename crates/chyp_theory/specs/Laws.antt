-- What the monoidal laws prove of terms of wires.
use Rattle.std.specs.Prelude.{ℕ, ◌≡◌, ◌⊎◌, List, [], length, ◌↔◌}
use Rattle.chyp_base.specs.declared.sort.Sort.{Sort}
use Rattle.chyp_term.specs.Perm.{IsPermutation, permuted}
use Rattle.chyp_term.specs.Morphism.{Morphism, permutation, dom, cod, IsTyped}
use Rattle.chyp_term.specs.Wiring.{IsWires, wiring_of}
use Rattle.chyp_term.specs.Derivation.{IsEquation, Derives}

-- the wiring of a typed term of wires is a permutation of its domain, and gives its codomain
abbrev pub WiringsPermute : Type 0
WiringsPermute = (t : Morphism) → IsWires t → IsTyped t
    → IsPermutation (length (dom t)) (wiring_of t) × (permuted (dom t) (wiring_of t) ≡ cod t)

-- each typed term of wires equals by the monoidal laws the permutation that it is
abbrev pub WiresArePermutations : Type 0
WiresArePermutations = (t : Morphism) → IsWires t → IsTyped t → Derives [] t (permutation (dom t) (wiring_of t))

-- s = t by the monoidal laws exactly where both have one domain and are one permutation
abbrev pub IsDecidedByWiring : Morphism → Morphism → Type 0
IsDecidedByWiring s t = Derives [] s t ↔ ((dom s ≡ dom t) × (wiring_of s ≡ wiring_of t))

-- so it is for all typed terms of wires
abbrev pub WiringDecidesWires : Type 0
WiringDecidesWires = (s t : Morphism) → IsWires s → IsWires t → IsTyped s → IsTyped t → IsDecidedByWiring s t

-- what any equations derive is an equation: both terms are typed, and have one type
abbrev pub DerivationsAreEquations : Type 0
DerivationsAreEquations = (E : List (Morphism × Morphism)) (s t : Morphism) → Derives E s t → IsEquation s t

-- each term has a type, or it has none
abbrev pub TypingIsDecided : Type 0
TypingIsDecided = (t : Morphism) → (IsTyped t) ⊎ (¬ IsTyped t)

-- two lists of sorts are the same, or they are not
abbrev pub SortsAreDecided : Type 0
SortsAreDecided = (a b : List Sort) → (a ≡ b) ⊎ (¬ (a ≡ b))

-- a list of numbers is a permutation, or it is none
abbrev pub PermutationsAreDecided : Type 0
PermutationsAreDecided = (n : ℕ) (p : List ℕ) → (IsPermutation n p) ⊎ (¬ IsPermutation n p)
