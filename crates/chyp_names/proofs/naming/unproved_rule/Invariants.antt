use Rattle.std.proofs.Common.{[]}
use Rattle.chyp_names.specs.Naming.{unproved_use}
use Rattle.chyp_names.proofs.Firsts.{NoneYet}
use Rattle.chyp_names.proofs.Uses.{rule_uses}
use Rattle.chyp_names.proofs.naming.unproved_rule.Given as goal

abbrev pub invariant-loop-rule : goal.invariant-loop-rule
invariant-loop-rule l = NoneYet (unproved_use l.scope) rule_uses l.rules l.rule-index
