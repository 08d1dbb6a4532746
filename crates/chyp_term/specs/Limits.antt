-- How large a term may be, and how many wires a generator may have.
use Rattle.std.specs.Prelude.{ℕ, ◌≤◌}
use Rattle.chyp_term.specs.declared.limits.TheConstants.{MOST_PORTS, MOST_GENERATORS, MOST_SIZE, MOST_DEPTH}
use Rattle.chyp_term.specs.Morphism.{Morphism}
use Rattle.chyp_term.specs.Measure.{size_of, depth_of, generators_of}

-- the most wires on one side of a generator
abbrev pub most_ports : ℕ
most_ports = MOST_PORTS

-- the most generators in one term
abbrev pub most_generators : ℕ
most_generators = MOST_GENERATORS

-- the greatest size of one term
abbrev pub most_size : ℕ
most_size = MOST_SIZE

-- the greatest depth of one term
abbrev pub most_depth : ℕ
most_depth = MOST_DEPTH

-- a term is within its limits
pub record IsWithinLimits (t : Morphism) : Type 0 where
  pub generators : generators_of t ≤ most_generators
  pub size : size_of t ≤ most_size
  pub depth : depth_of t ≤ most_depth
