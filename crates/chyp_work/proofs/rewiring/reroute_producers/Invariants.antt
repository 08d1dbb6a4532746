use Rattle.chyp_work.proofs.Turns.{IsTurned}
use Rattle.chyp_work.proofs.rewiring.reroute_producers.Given as goal

abbrev pub invariant-loop-i : goal.invariant-loop-i
invariant-loop-i l = IsTurned l.initial.board l.board l.images l.ends l.i
