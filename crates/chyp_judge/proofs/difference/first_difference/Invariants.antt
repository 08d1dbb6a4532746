use Rattle.chyp_judge.specs.Walk.{GoesOn}
use Rattle.chyp_judge.proofs.difference.first_difference.Given as goal

abbrev pub invariant-loop-at : goal.invariant-loop-at
invariant-loop-at l = GoesOn l.initial.walk l.walk
