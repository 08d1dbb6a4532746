use Rattle.std.proofs.Common.{map}
use Rattle.chyp_simp.specs.Run.{AreIdle}
use Rattle.chyp_simplifier.specs.Rule.{graphs_of}
use Rattle.chyp_simplifier.proofs.round.apply_first.Given as goal

abbrev pub invariant-loop-rule : goal.invariant-loop-rule
invariant-loop-rule l = AreIdle (map graphs_of l.rules) l.graph l.rule-index
