use Rattle.std.proofs.Common.{[]}
use Rattle.chyp_names.specs.Naming.{fault_of}
use Rattle.chyp_names.proofs.Firsts.{NoneYet}
use Rattle.chyp_names.proofs.Uses.{part_uses}
use Rattle.chyp_names.proofs.naming.+fault_in_tree.Given as goal

abbrev pub invariant-loop-part : goal.invariant-loop-part
invariant-loop-part l = NoneYet (fault_of l.scope) part_uses l.part-items l.part-index
