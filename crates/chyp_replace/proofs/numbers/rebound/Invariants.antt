use Rattle.std.proofs.Common.{take}
use Rattle.chyp_replace.specs.Numbers.{AreRebound}
use Rattle.chyp_replace.proofs.numbers.rebound.Given as goal

abbrev pub invariant-loop-i : goal.invariant-loop-i
invariant-loop-i l = AreRebound (take l.i l.wires) l.ends l.numbers l.after.items
