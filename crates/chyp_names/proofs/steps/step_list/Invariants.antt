use Rattle.std.proofs.Common.{◌≡◌, [], map, take}
use Rattle.chyp_term.specs.Step.{reason_of}
use Rattle.chyp_names.specs.Elaboration.{reason_at}
use Rattle.chyp_names.proofs.steps.step_list.Given as goal

abbrev pub invariant-loop-ast : goal.invariant-loop-ast
invariant-loop-ast l = map reason_of l.list.items ≡ map (λ step. reason_at l.scope step.reason) (take l.ast-index l.steps)
