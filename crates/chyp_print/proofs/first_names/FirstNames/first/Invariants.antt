use Rattle.std.proofs.Common.{◌≡◌, drop}
use Rattle.chyp_print.specs.Environments.{first_binding}
use Rattle.chyp_print.proofs.first_names.FirstNames.first.Given as goal

abbrev pub invariant-loop-number : goal.invariant-loop-number
invariant-loop-number l = first_binding (drop l.number l.self) l.name l.dom l.cod ≡ first_binding l.self l.name l.dom l.cod
