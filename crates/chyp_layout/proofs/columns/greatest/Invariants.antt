use Rattle.std.proofs.Common.{◌≡◌, take}
use Rattle.chyp_layout.specs.Columns.{greatest}
use Rattle.chyp_layout.proofs.columns.greatest.Given as goal

abbrev pub invariant-loop-n : goal.invariant-loop-n
invariant-loop-n l = l.greatest ≡ greatest (take l.n-index l.numbers)
