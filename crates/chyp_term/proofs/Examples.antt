-- Worked examples of the definitions.
use Rattle.std.proofs.Common.{◌≡◌, [], ◌∷◌, refl}
use Rattle.chyp_base.specs.declared.sort.Sort.{Sort}
use Rattle.chyp_term.specs.Perm.{IsInverse, swapped}
use Rattle.chyp_term.specs.Morphism.{Morphism, generator, permutation, then, beside, cod}
use Rattle.chyp_term.specs.Measure.{size_of, depth_of, generators_of}
use Rattle.chyp_term.specs.Wiring.{wiring_of}

three_turned : (a b c : Sort) → cod (permutation (a ∷ b ∷ c ∷ []) (1 ∷ 2 ∷ 0 ∷ [])) ≡ b ∷ c ∷ a ∷ []
three_turned a b c = refl

two_past_one : swapped 2 1 ≡ 2 ∷ 0 ∷ 1 ∷ []
two_past_one = refl

turned_then_crossed : (a b c : Sort) → wiring_of (then (permutation (a ∷ b ∷ c ∷ []) (1 ∷ 2 ∷ 0 ∷ [])) (permutation (b ∷ c ∷ a ∷ []) (1 ∷ 0 ∷ 2 ∷ []))) ≡ 2 ∷ 1 ∷ 0 ∷ []
turned_then_crossed a b c = refl

crossed_beside_wire : (a b c : Sort) → wiring_of (beside (permutation (a ∷ b ∷ []) (1 ∷ 0 ∷ [])) (permutation (c ∷ []) (0 ∷ []))) ≡ 1 ∷ 0 ∷ 2 ∷ []
crossed_beside_wire a b c = refl

turned_back : IsInverse (1 ∷ 2 ∷ 0 ∷ []) (2 ∷ 0 ∷ 1 ∷ [])
turned_back = record { size = refl; after = refl; before = refl }

-- a product of two wires beside a crossing, and then the same again
abbrev product_beside_crossing : Sort → Morphism
product_beside_crossing s = beside (generator [] (s ∷ s ∷ []) (s ∷ [])) (permutation (s ∷ s ∷ []) (1 ∷ 0 ∷ []))

its_size : (s : Sort) → size_of (then (product_beside_crossing s) (product_beside_crossing s)) ≡ 17
its_size s = refl

its_depth : (s : Sort) → depth_of (then (product_beside_crossing s) (product_beside_crossing s)) ≡ 3
its_depth s = refl

its_generators : (s : Sort) → generators_of (then (product_beside_crossing s) (product_beside_crossing s)) ≡ 2
its_generators s = refl
