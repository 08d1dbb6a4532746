use Rattle.std.proofs.Common.{◌≡◌, take}
use Rattle.chyp_check.proofs.reading.read_all.Given as goal

abbrev pub invariant-loop-name : goal.invariant-loop-name
invariant-loop-name l = l.list.items ≡ take l.name-index l.texts
