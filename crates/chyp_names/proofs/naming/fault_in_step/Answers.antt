use Rattle.std.proofs.Common.{[], map, ap, option_map, ◌∙◌}
use Rattle.chyp_syntax.specs.Step.{step_of}
use Rattle.chyp_syntax.specs.Term.{tree_of}
use Rattle.chyp_names.specs.Faults.{first_fault_among}
use Rattle.chyp_names.specs.Naming.{in_reason, names_of_reason, uses_in_goal, fault_of}
use Rattle.chyp_names.proofs.Firsts.{first_wins, second_wins}
use Rattle.chyp_names.proofs.naming.fault_in_step.Goals as goal

pub returns-then-is_some : goal.returns-then-is_some
returns-then-is_some c = first_wins (fault_of c.args.scope.now) (uses_in_goal (step_of c.args.step.now).goal) (map in_reason (names_of_reason c.args.step.now.reason))
    c.fault_in_goal-fault.result
    (c.fault_in_goal-fault.ensures ∙ ap (λ goal. first_fault_among c.args.scope.now (uses_in_goal (option_map tree_of goal))) c.as_ref.ensures.value) c.if-is_some.ensures

pub returns : goal.returns
returns c = second_wins (fault_of c.args.scope.now) (uses_in_goal (step_of c.args.step.now).goal) (map in_reason (names_of_reason c.args.step.now.reason))
    c.fault_in_goal-fault.result c.fault_in_by.result
    (c.fault_in_goal-fault.ensures ∙ ap (λ goal. first_fault_among c.args.scope.now (uses_in_goal (option_map tree_of goal))) c.as_ref.ensures.value) c.if-is_some.ensures
    c.fault_in_by.ensures
