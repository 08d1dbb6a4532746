use Rattle.std.proofs.Common.{ℕ, List, [], map, flat_map, slice_get, ◌∙◌, ap, sym}
use Rattle.chyp_syntax.specs.declared.step.StepAst.{StepAst}
use Rattle.chyp_syntax.specs.Step.{step_of}
use Rattle.chyp_names.specs.Faults.{first_unproved_among}
use Rattle.chyp_names.specs.Naming.{uses_in_step, unproved_use}
use Rattle.chyp_names.proofs.Firsts.{stops, goes_on, ends}
use Rattle.chyp_names.proofs.Uses.{step_uses, uses_of_steps, unproved_in_step}
use Rattle.chyp_names.proofs.naming.unproved_in_steps.Goals as goal

pub returns-then-is_some : goal.returns-then-is_some
returns-then-is_some c =
    stops (unproved_use c.args.scope.now) step_uses c.args.steps.now c.loop-step.step-index c.step-item.result (flat_map uses_in_step (map step_of c.args.steps.now))
    c.unproved_in_by-unproved.result
    (uses_of_steps c.args.steps.now) c.loop-step-test.true c.loop-step.invariant
    (c.unproved_in_by-unproved.ensures ∙ ap (λ (vs : List ℕ). slice_get vs 0) (sym (unproved_in_step c.args.scope.now (step_of c.step-item.result)))
    ∙ ap (λ (step : StepAst). first_unproved_among c.args.scope.now (step_uses step)) c.step-item.is) c.if-is_some.ensures

pub loop-step-preserved : goal.loop-step-preserved
loop-step-preserved c =
    goes_on (unproved_use c.args.scope.now) step_uses c.args.steps.now c.loop-step.step-index c.step-item.result c.unproved_in_by-unproved.result c.loop-step-test.true
    c.loop-step.invariant
    (c.unproved_in_by-unproved.ensures ∙ ap (λ (vs : List ℕ). slice_get vs 0) (sym (unproved_in_step c.args.scope.now (step_of c.step-item.result)))
    ∙ ap (λ (step : StepAst). first_unproved_among c.args.scope.now (step_uses step)) c.step-item.is) c.if-is_some.ensures

pub returns : goal.returns
returns c = ends (unproved_use c.args.scope.now) step_uses c.args.steps.now c.loop-step.step-index (flat_map uses_in_step (map step_of c.args.steps.now))
    (uses_of_steps c.args.steps.now) c.loop-step-test.false c.loop-step.invariant
