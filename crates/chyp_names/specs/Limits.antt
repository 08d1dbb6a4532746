-- How large the terms of a statement may be.
use Rattle.std.specs.Prelude.{ℕ, ◌≤◌, List, All, sum_by}
use Rattle.chyp_syntax.specs.Statement.{StatementTree, generator}
use Rattle.chyp_term.specs.Morphism.{Morphism}
use Rattle.chyp_term.specs.Measure.{size_of}
use Rattle.chyp_term.specs.Limits.{most_ports, IsWithinLimits}
use Rattle.chyp_names.specs.declared.limits.TheConstants.{MOST_TOGETHER}

-- the greatest size of all terms of a statement together
abbrev pub most_together : ℕ
most_together = MOST_TOGETHER

-- no generator is declared with too many wires
abbrev pub HasFewPorts : StatementTree → Type 0
HasFewPorts (generator name dom cod) = (dom ≤ most_ports) × (cod ≤ most_ports)
HasFewPorts _ = Unit {0}

-- a statement with these terms is within the limits
pub record AreWithinLimits (tree : StatementTree) (terms : List Morphism) : Type 0 where
  pub ports : HasFewPorts tree
  pub each : All IsWithinLimits terms
  pub together : sum_by size_of terms ≤ most_together
