-- What is known of a term without walking it.
use Rattle.chyp_term.specs.declared.shape.Shape.{Shape}
use Rattle.chyp_term.specs.Limits.{IsWithinLimits}
use Rattle.chyp_term.specs.Morphism.{Morphism}
use Rattle.chyp_env.specs.declared.sizes.Sizes.{Sizes}
use Rattle.chyp_env.specs.Shape.{IsShape}
use Rattle.chyp_env.specs.Sizes.{AreSizes}

-- the term has this type and these measures, and is within the limits
pub record IsKnown (shape : Shape) (sizes : Sizes) (t : Morphism) : Type 0 where
  pub typed : IsShape shape t
  pub measured : AreSizes sizes t
  pub small : IsWithinLimits t
