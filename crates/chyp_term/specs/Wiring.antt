-- Terms made of wires alone, and the permutation of wires that each of them is.
use Rattle.std.specs.Prelude.{ℕ, List, [], ◌++◌, length}
use Rattle.chyp_term.specs.Perm.{permuted, shifted}
use Rattle.chyp_term.specs.Morphism.{Morphism, generator, permutation, then, beside, dom}

-- no generator stands in the term
abbrev pub IsWires : Morphism → Type 0
IsWires (generator n a b) = ⊥
IsWires (permutation a p) = Unit {0}
IsWires (then s t) = IsWires s × IsWires t
IsWires (beside s t) = IsWires s × IsWires t

-- the permutation that a term of wires is; [] at a generator, which has none
abbrev pub wiring_of : Morphism → List ℕ
wiring_of (generator n a b) = []
wiring_of (permutation a p) = p
wiring_of (then s t) = permuted (wiring_of s) (wiring_of t)
wiring_of (beside s t) = wiring_of s ++ shifted (length (dom s)) (wiring_of t)
