use Rattle.std.proofs.Common.{take}
use Rattle.chyp_print.specs.FirstNames.{IsIndex}
use Rattle.chyp_print.proofs.first_names.numbers_of.Given as goal

abbrev pub invariant-loop-number : goal.invariant-loop-number
invariant-loop-number l = IsIndex (take l.number l.env) l.numbers.entries
