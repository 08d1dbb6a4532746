-- Whether a term that is read back is within the limits, by what is measured of it.
use Rattle.std.proofs.Common.{ℕ, ◌-◌, ◌^◌, ◌≤◌, ◌≡◌, arith}
use Rattle.std.specs.Prelude.{min}
use Rattle.chyp_term.specs.Limits.{IsWithinLimits, most_depth, most_generators, most_size}
use Rattle.chyp_term.specs.Measure.{depth_of, generators_of, size_of}
use Rattle.chyp_term.specs.Morphism.{Morphism}

module _ (t : Morphism) (gens size depth : ℕ) (g : gens ≡ min (generators_of t) (2 ^ 64 - 1)) (s : size ≡ min (size_of t) (2 ^ 64 - 1)) (d : depth ≡ min (depth_of t) (2 ^ 64 - 1)) where
  pub within : (gens ≤ most_generators) × (size ≤ most_size) × (depth ≤ most_depth) → IsWithinLimits t
  within h = let a = h.0 in let b = h.1 in let c = h.2 in record { generators = omega arith; size = omega arith; depth = omega arith }

  pub measured : IsWithinLimits t → (gens ≤ most_generators) × (size ≤ most_size) × (depth ≤ most_depth)
  measured h = let a = h.generators in let b = h.size in let c = h.depth in (omega arith, omega arith, omega arith)
