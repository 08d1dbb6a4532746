use Rattle.std.proofs.Common.{[]}
use Rattle.chyp_syntax.specs.Term.{tree_of}
use Rattle.chyp_names.specs.Naming.{uses_in, fault_of}
use Rattle.chyp_names.proofs.Firsts.{first_wins, second_wins}
use Rattle.chyp_names.proofs.naming.fault_in_two.Goals as goal

pub returns-then-is_some : goal.returns-then-is_some
returns-then-is_some c = first_wins (fault_of c.args.scope.now) (uses_in (tree_of c.args.left.now)) (uses_in (tree_of c.args.right.now)) c.fault_in_tree-fault.result
    c.fault_in_tree-fault.ensures c.if-is_some.ensures

pub returns : goal.returns
returns c = second_wins (fault_of c.args.scope.now) (uses_in (tree_of c.args.left.now)) (uses_in (tree_of c.args.right.now)) c.fault_in_tree-fault.result
    c.fault_in_tree.result c.fault_in_tree-fault.ensures c.if-is_some.ensures c.fault_in_tree.ensures
