-- Plain wires, in lists and terms that are shared.
use Rattle.std.specs.Prelude.{◌≡◌, List, [], ◌∷◌}
use Rattle.chyp_base.specs.declared.sort.Sort.{Sort}
use Rattle.chyp_base.specs.Sort.{plain}
use Rattle.chyp_term.specs.Morphism.{Morphism}
use Rattle.chyp_env.specs.Expansion.{plain_permutation, plain_wires}

-- this is the sort of a plain wire, and these are lists of one and of two of it
pub record ArePlain (its_sort : Sort) (ones twos : List Sort) : Type 0 where
  pub sort : its_sort ≡ plain
  pub one : ones ≡ plain_wires 1
  pub two : twos ≡ plain_wires 2

-- these are the terms of `id0`, `id` and `sw`
pub record AreShared (id0 id sw : Morphism) : Type 0 where
  pub none : id0 ≡ plain_permutation []
  pub wire : id ≡ plain_permutation (0 ∷ [])
  pub crossing : sw ≡ plain_permutation (1 ∷ 0 ∷ [])
