-- The terms that the steps of a rewrite lead to. No public clause cites this.
use Rattle.std.specs.Prelude.{◌≡◌, ◌+◌, ℕ, ◌≤◌, List, map, Option, None, Some, All, sum_by}
use Rattle.chyp_syntax.specs.declared.step.StepAst.{StepAst}
use Rattle.chyp_syntax.specs.Step.{step_of}
use Rattle.chyp_term.specs.Measure.{size_of}
use Rattle.chyp_term.specs.Morphism.{Morphism}
use Rattle.chyp_term.specs.Limits.{IsWithinLimits}
use Rattle.chyp_env.specs.Scope.{Scope}
use Rattle.chyp_names.specs.Elaboration.{expansion_at}
use Rattle.chyp_names.specs.Limits.{most_together}
use Rattle.chyp_names.specs.Trees.{goals_of}

-- the terms of the goals of steps
abbrev pub goal_terms : Scope → List StepAst → List Morphism
goal_terms scope steps = map (expansion_at scope) (goals_of (map step_of steps))

-- terms behind others of this size together are within the limits
pub record FitBehind (before : ℕ) (terms : List Morphism) : Type 0 where
  pub each : All IsWithinLimits terms
  pub together : before + sum_by size_of terms ≤ most_together

-- the size of these terms with those before them, None where they don't fit
abbrev pub IsSum : ℕ → List Morphism → Option ℕ → Type 0
IsSum before terms (Some sum) = FitBehind before terms × (sum ≡ before + sum_by size_of terms)
IsSum before terms None = ¬ FitBehind before terms
