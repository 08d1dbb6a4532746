use Rattle.std.proofs.Common.{◌≡◌, [], map, take}
use Rattle.chyp_term.specs.Equation.{equation_of}
use Rattle.chyp_names.specs.Elaboration.{equation_at}
use Rattle.chyp_names.proofs.steps.equations.Given as goal

abbrev pub invariant-loop-rule : goal.invariant-loop-rule
invariant-loop-rule l = map equation_of l.equations.items ≡ map (equation_at l.scope) (take l.rule-index l.rules)
