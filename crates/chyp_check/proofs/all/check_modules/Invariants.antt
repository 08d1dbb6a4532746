use Rattle.chyp_check.proofs.Going.{IsGoing}
use Rattle.chyp_check.proofs.all.check_modules.Given as goal

abbrev pub invariant-loop-number : goal.invariant-loop-number
invariant-loop-number g l = IsGoing l.fn.project l.number-items l.number-index l.envs.items l.fn.steps l.steps
