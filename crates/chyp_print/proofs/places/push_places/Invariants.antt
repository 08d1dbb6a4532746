use Rattle.std.proofs.Common.{◌≡◌, ◌++◌, take}
use Rattle.chyp_print.specs.Printing.{with_commas}
use Rattle.chyp_print.proofs.places.push_places.Given as goal

abbrev pub invariant-loop-i : goal.invariant-loop-i
invariant-loop-i l = l.out.items ≡ l.initial.out.items ++ with_commas (take l.i l.places)
