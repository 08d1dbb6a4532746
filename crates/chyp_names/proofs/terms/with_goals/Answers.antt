use Rattle.std.proofs.Common.{[]}
use Rattle.std.proofs.lemmas.Result.{err_from_is_err_and}
use Rattle.chyp_names.proofs.Alike.{agree_more, agree_all, agree_fails}
use Rattle.chyp_names.proofs.Made.{goal_small, goals_more}
use Rattle.chyp_names.proofs.terms.with_goals.Goals as goal

pub with_goal-requires : goal.with_goal-requires
with_goal-requires c =
    goal_small c.args.scope.now c.args.steps.now c.loop-step.step-index c.step-item.result c.loop-step-test.true c.step-item.is c.requires

pub returns-in_err-terms-2-clause-fails : goal.returns-in_err-terms-2-clause-fails
returns-in_err-terms-2-clause-fails c = λ token e.
    let p = err_from_is_err_and c.from_residual-in_err-terms-2.result c.from_residual-in_err-terms-2.ensures.1 in
    agree_fails c.args.scope.now c.args.first.now c.args.steps.now c.loop-step.step-index c.step-item.result token c.loop-step-test.true c.step-item.is
    c.loop-step.invariant.1 (c.in_err-terms-2.ensures.fails token (cc))

pub loop-step-preserved : goal.loop-step-preserved
loop-step-preserved c =
    let scope = c.args.scope.now in (
      goals_more scope c.args.first.now c.loop-step.terms.items c.in_ok-terms-2.terms.items c.args.steps.now c.loop-step.step-index c.step-item.result c.loop-step-test.true c.step-item.is
          c.loop-step.invariant.0 c.in_ok-terms-2.ensures.terms,
      agree_more scope c.args.first.now c.args.steps.now c.loop-step.step-index c.step-item.result c.loop-step-test.true c.step-item.is c.loop-step.invariant.1 c.in_ok-terms-2.ensures.ok,
    )

pub returns-clause-ok : goal.returns-clause-ok
returns-clause-ok c = agree_all c.args.scope.now c.args.first.now c.args.steps.now c.loop-step.step-index c.loop-step-test.false c.loop-step.invariant.1
