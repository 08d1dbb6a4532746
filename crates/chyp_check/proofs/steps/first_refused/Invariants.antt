use Rattle.std.proofs.Common.{◌-◌}
use Rattle.chyp_term.specs.Step.{reasons_of}
use Rattle.chyp_verdicts.specs.Steps.{AreGood, moves_of}
use Rattle.chyp_check.proofs.steps.first_refused.Given as goal

abbrev pub invariant-loop-at : goal.invariant-loop-at
invariant-loop-at l = AreGood (moves_of l.terms (reasons_of l.steps)) (l.at - 1)
