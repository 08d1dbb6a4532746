use Rattle.std.proofs.Common.{[]}
use Rattle.chyp_names.specs.Naming.{fault_of}
use Rattle.chyp_names.proofs.Firsts.{NoneYet}
use Rattle.chyp_names.proofs.Uses.{step_uses}
use Rattle.chyp_names.proofs.naming.fault_in_steps.Given as goal

abbrev pub invariant-loop-step : goal.invariant-loop-step
invariant-loop-step l = NoneYet (fault_of l.scope) step_uses l.steps l.step-index
