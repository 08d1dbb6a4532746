use Rattle.chyp_term.proofs.Marks.{IsMarked}
use Rattle.chyp_term.proofs.places.mark.Given as goal

abbrev pub invariant-loop-i : goal.invariant-loop-i
invariant-loop-i l = IsMarked l.initial.places l.places l.i
