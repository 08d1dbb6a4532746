use Rattle.chyp_work.proofs.Uses.{IsUsedInTurn}
use Rattle.chyp_work.proofs.rewiring.reroute_consumers.Given as goal

abbrev pub invariant-loop-i : goal.invariant-loop-i
invariant-loop-i l = IsUsedInTurn l.initial.board l.board l.images l.ends l.i
