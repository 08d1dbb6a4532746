use Rattle.std.proofs.Common.{[], map, flat_map, ◌∙◌, ap}
use Rattle.chyp_syntax.specs.declared.step.StepAst.{StepAst}
use Rattle.chyp_syntax.specs.Step.{step_of}
use Rattle.chyp_names.specs.Faults.{first_fault_among}
use Rattle.chyp_names.specs.Naming.{uses_in_step, fault_of}
use Rattle.chyp_names.proofs.Firsts.{stops, goes_on, ends}
use Rattle.chyp_names.proofs.Uses.{step_uses, uses_of_steps}
use Rattle.chyp_names.proofs.naming.fault_in_steps.Goals as goal

pub returns-then-is_some : goal.returns-then-is_some
returns-then-is_some c =
    stops (fault_of c.args.scope.now) step_uses c.args.steps.now c.loop-step.step-index c.step-item.result (flat_map uses_in_step (map step_of c.args.steps.now))
    c.fault_in_step-fault.result
    (uses_of_steps c.args.steps.now) c.loop-step-test.true c.loop-step.invariant
    (c.fault_in_step-fault.ensures ∙ ap (λ (step : StepAst). first_fault_among c.args.scope.now (step_uses step)) c.step-item.is) c.if-is_some.ensures

pub loop-step-preserved : goal.loop-step-preserved
loop-step-preserved c =
    goes_on (fault_of c.args.scope.now) step_uses c.args.steps.now c.loop-step.step-index c.step-item.result c.fault_in_step-fault.result c.loop-step-test.true
    c.loop-step.invariant
    (c.fault_in_step-fault.ensures ∙ ap (λ (step : StepAst). first_fault_among c.args.scope.now (step_uses step)) c.step-item.is) c.if-is_some.ensures

pub returns : goal.returns
returns c = ends (fault_of c.args.scope.now) step_uses c.args.steps.now c.loop-step.step-index (flat_map uses_in_step (map step_of c.args.steps.now))
    (uses_of_steps c.args.steps.now) c.loop-step-test.false c.loop-step.invariant
