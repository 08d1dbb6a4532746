-- The text of a term.
use Rattle.std.specs.Prelude.{ℕ, zero, suc, Bool, true, false, cond, List, [], ◌∷◌, ◌++◌, codes, decimal}
use Rattle.chyp_base.specs.declared.sort.Sort.{Sort}
use Rattle.chyp_term.specs.Morphism.{Morphism, generator, permutation, then, beside}

-- a text for each generator, by its name in terms and its type
abbrev pub Naming : Type 0
Naming = List ℕ → List Sort → List Sort → List ℕ

-- numbers with commas between them
abbrev pub with_commas : List ℕ → List ℕ
with_commas [] = []
with_commas (place ∷ []) = decimal place
with_commas (place ∷ next ∷ places) = decimal place ++ (codes "," ++ with_commas (next ∷ places))

-- `id0`, `id`, `sw`, or `sw` with its places
abbrev pub permutation_text : List ℕ → List ℕ
permutation_text [] = codes "id0"
permutation_text (zero ∷ []) = codes "id"
permutation_text (suc zero ∷ zero ∷ []) = codes "sw"
permutation_text places = codes "sw[" ++ (with_commas places ++ codes "]")

-- a text in parentheses
abbrev pub in_parentheses : List ℕ → List ℕ
in_parentheses text = codes "(" ++ (text ++ codes ")")

-- a term with its chains flattened, and with parentheses round a composite where it stands in a tensor
abbrev pub printed_in : Naming → (in_tensor : Bool) → Morphism → List ℕ
printed_in naming in_tensor (generator n a b) = naming n a b
printed_in naming in_tensor (permutation a p) = permutation_text p
printed_in naming in_tensor (then s t) =
    let text = printed_in naming false s ++ (codes " ; " ++ printed_in naming false t) in
    cond in_tensor (in_parentheses text) text
printed_in naming in_tensor (beside s t) = printed_in naming true s ++ (codes " * " ++ printed_in naming true t)

-- the text of a term, where generators have these names
abbrev pub printed_by : Naming → Morphism → List ℕ
printed_by naming t = printed_in naming false t
