use Rattle.std.proofs.Common.{[]}
use Rattle.chyp_names.specs.Naming.{fault_of}
use Rattle.chyp_names.proofs.Firsts.{NoneYet}
use Rattle.chyp_names.proofs.Uses.{rule_uses}
use Rattle.chyp_names.proofs.naming.fault_in_rules.Given as goal

abbrev pub invariant-loop-rule : goal.invariant-loop-rule
invariant-loop-rule l = NoneYet (fault_of l.scope) rule_uses l.rules l.rule-index
