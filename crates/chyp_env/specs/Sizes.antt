-- The measures of a term, without the term.
use Rattle.std.specs.Prelude.{◌≡◌, ◌-◌, ◌^◌, min}
use Rattle.chyp_term.specs.Measure.{size_of, depth_of, generators_of}
use Rattle.chyp_term.specs.Morphism.{Morphism}
use Rattle.chyp_env.specs.declared.sizes.Sizes.{Sizes}

-- these are the measures of the term, each 2^64 - 1 where it is greater
pub record AreSizes (sizes : Sizes) (t : Morphism) : Type 0 where
  pub size : sizes.size ≡ min (size_of t) (2 ^ 64 - 1)
  pub depth : sizes.depth ≡ min (depth_of t) (2 ^ 64 - 1)
  pub generators : sizes.generators ≡ min (generators_of t) (2 ^ 64 - 1)
