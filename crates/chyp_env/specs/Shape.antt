-- What contracts see of the type of a term.
use Rattle.std.specs.Prelude.{◌≡◌}
use Rattle.chyp_term.specs.declared.shape.Shape.{Shape}
use Rattle.chyp_term.specs.Morphism.{Morphism, dom, cod, IsTyped}

-- the term is typed, and this is its type
pub record IsShape (shape : Shape) (t : Morphism) : Type 0 where
  pub dom : shape.dom ≡ dom t
  pub cod : shape.cod ≡ cod t
  pub typed : IsTyped t
