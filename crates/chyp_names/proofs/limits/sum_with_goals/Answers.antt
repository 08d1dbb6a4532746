use Rattle.std.proofs.Common.{[], ◌∷◌, Some, subst}
use Rattle.chyp_names.specs.Goals.{IsSum, goal_terms}
use Rattle.chyp_names.proofs.Goals.{sum_step, sum_stops}
use Rattle.chyp_names.proofs.limits.sum_with_goals.Goals as goal

pub returns-in_err-sum : goal.returns-in_err-sum
returns-in_err-sum c = rw c.from_residual.ensures
    (sum_stops c.args.scope.now c.args.before c.loop-step.sum c.args.steps.now c.loop-step.step-index c.step-item.result c.loop-step-test.true c.step-item.is
    c.loop-step.invariant
    (subst (IsSum c.loop-step.sum (goal_terms c.args.scope.now (c.step-item.result ∷ []))) c.in_err-sum.was c.sum_with_goal.ensures))

pub loop-step-preserved : goal.loop-step-preserved
loop-step-preserved c =
    sum_step c.args.scope.now c.args.before c.loop-step.sum c.args.steps.now c.loop-step.step-index c.step-item.result
    (Some c.in_ok-sum.sum) c.loop-step-test.true c.step-item.is c.loop-step.invariant
    (subst (IsSum c.loop-step.sum (goal_terms c.args.scope.now (c.step-item.result ∷ []))) c.in_ok-sum.was c.sum_with_goal.ensures)
