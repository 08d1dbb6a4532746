-- The laws of symmetric strict monoidal categories, and derivations from equations by them
-- (Mac Lane, Categories for the Working Mathematician, VII and XI). No graph is named here.
use Rattle.std.specs.Prelude.{ℕ, ◌≡◌, List, [], ◌++◌, length, Contains}
use Rattle.chyp_base.specs.declared.sort.Sort.{Sort}
use Rattle.chyp_term.specs.Perm.{permuted, count_from, shifted, swapped}
use Rattle.chyp_term.specs.Morphism.{Morphism, permutation, then, beside, dom, cod, IsTyped}

-- the wires of a, straight through
abbrev pub identity : List Sort → Morphism
identity a = permutation a (count_from 0 (length a))

-- the diagram without wires
abbrev pub empty : Morphism
empty = permutation [] []

-- the wires of a cross those of b
abbrev pub swap : List Sort → List Sort → Morphism
swap a b = permutation (a ++ b) (swapped (length a) (length b))

-- the nine monoidal laws, of which the one on the empty diagram has two sides; they hold where both terms are typed.
-- There is none for hexagons, nor for swap ; swap = id: permutations are primitive here, and such laws follow from
-- `perm_then` and `perm_beside` by computing places.
pub data IsLaw : Morphism → Morphism → Type 0 where
  -- (a ; b) ; c = a ; (b ; c)
  then_assoc : (a b c : Morphism) → IsLaw (then (then a b) c) (then a (then b c))
  -- id ; a = a
  then_left : (a : Morphism) → IsLaw (then (identity (dom a)) a) a
  -- a ; id = a
  then_right : (a : Morphism) → IsLaw (then a (identity (cod a))) a
  -- (a * b) * c = a * (b * c)
  beside_assoc : (a b c : Morphism) → IsLaw (beside (beside a b) c) (beside a (beside b c))
  -- id0 * a = a
  beside_left : (a : Morphism) → IsLaw (beside empty a) a
  -- a * id0 = a
  beside_right : (a : Morphism) → IsLaw (beside a empty) a
  -- (a * b) ; (c * d) = (a ; c) * (b ; d)
  interchange : (a b c d : Morphism) → IsLaw (then (beside a b) (beside c d)) (beside (then a c) (then b d))
  -- two permutations in a row are one
  perm_then : (a b : List Sort) (p q : List ℕ) → IsLaw (then (permutation a p) (permutation b q)) (permutation a (permuted p q))
  -- two permutations side by side are one
  perm_beside : (a b : List Sort) (p q : List ℕ)
      → IsLaw (beside (permutation a p) (permutation b q)) (permutation (a ++ b) (p ++ shifted (length a) q))
  -- (f * g) ; swap = swap ; (g * f)
  slide : (f g : Morphism) → IsLaw (then (beside f g) (swap (cod f) (cod g))) (then (swap (dom f) (dom g)) (beside g f))

-- s = t is an equation: both are typed, and have one type
pub record IsEquation (s t : Morphism) : Type 0 where
  pub left : IsTyped s
  pub right : IsTyped t
  pub doms : dom s ≡ dom t
  pub cods : cod s ≡ cod t

-- the equations E give s = t: it has a finite derivation of typed terms, by reflexivity, symmetry, transitivity,
-- congruence of ; and of *, the monoidal laws, and those members of E that are equations. For the empty E, s and t are
-- equal by the monoidal laws.
pub data Derives (E : List (Morphism × Morphism)) : Morphism → Morphism → Type 0 where
  same : {s : Morphism} → IsTyped s → Derives E s s
  back : {s t : Morphism} → Derives E s t → Derives E t s
  chain : {s t u : Morphism} → Derives E s t → Derives E t u → Derives E s u
  in_then : {a b c d : Morphism} → Derives E a b → Derives E c d → cod a ≡ dom c → Derives E (then a c) (then b d)
  in_beside : {a b c d : Morphism} → Derives E a b → Derives E c d → Derives E (beside a c) (beside b d)
  by_law : {s t : Morphism} → IsLaw s t → IsTyped s → IsTyped t → Derives E s t
  given : {s t : Morphism} → Contains E (s, t) → IsEquation s t → Derives E s t
