use Rattle.std.proofs.Common.{[], map, flat_map}
use Rattle.chyp_syntax.specs.Step.{step_of}
use Rattle.chyp_syntax.specs.Term.{tree_of}
use Rattle.chyp_names.specs.Naming.{uses_in, uses_in_step, fault_of}
use Rattle.chyp_names.proofs.Firsts.{first_wins, second_wins}
use Rattle.chyp_names.proofs.naming.fault_in_rewrite.Goals as goal

pub returns-then-is_some : goal.returns-then-is_some
returns-then-is_some c = first_wins (fault_of c.args.scope.now) (uses_in (tree_of c.args.first.now)) (flat_map uses_in_step (map step_of c.args.steps.now))
    c.fault_in_tree-fault.result c.fault_in_tree-fault.ensures c.if-is_some.ensures

pub returns : goal.returns
returns c = second_wins (fault_of c.args.scope.now) (uses_in (tree_of c.args.first.now)) (flat_map uses_in_step (map step_of c.args.steps.now)) c.fault_in_tree-fault.result
    c.fault_in_steps.result c.fault_in_tree-fault.ensures c.if-is_some.ensures c.fault_in_steps.ensures
