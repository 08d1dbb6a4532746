use Rattle.std.proofs.Common.{[]}
use Rattle.chyp_names.specs.Naming.{unproved_use}
use Rattle.chyp_names.proofs.Firsts.{NoneYet}
use Rattle.chyp_names.proofs.Uses.{step_uses}
use Rattle.chyp_names.proofs.naming.unproved_in_steps.Given as goal

abbrev pub invariant-loop-step : goal.invariant-loop-step
invariant-loop-step l = NoneYet (unproved_use l.scope) step_uses l.steps l.step-index
