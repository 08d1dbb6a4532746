use Rattle.chyp_judge.specs.Walk.{GoesOn}
use Rattle.chyp_judge.proofs.walk.add_all.Given as goal

abbrev pub invariant-loop-i : goal.invariant-loop-i
invariant-loop-i l = GoesOn l.initial.walk l.walk
