use Rattle.std.proofs.Common.{option_copied}
use Rattle.chyp_env.proofs.Turns.{NoClashBefore}
use Rattle.chyp_env.proofs.import.first_clash.Given as goal

abbrev pub invariant-loop-number : goal.invariant-loop-number
invariant-loop-number l = NoClashBefore l.env l.imported (option_copied l.prefix) l.number
