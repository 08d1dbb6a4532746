use Rattle.std.proofs.Common.{[], Some, take}
use Rattle.chyp_names.specs.Goals.{IsSum, goal_terms}
use Rattle.chyp_names.proofs.limits.sum_with_goals.Given as goal

abbrev pub invariant-loop-step : goal.invariant-loop-step
invariant-loop-step l = IsSum l.before (goal_terms l.scope (take l.step-index l.steps)) (Some l.sum)
