use Rattle.std.proofs.Common.{◌≡◌, ◌++◌, take}
use Rattle.chyp_base.proofs.sorts.extend.Given as goal

abbrev pub invariant-loop-sort : goal.invariant-loop-sort
invariant-loop-sort l = l.list.items ≡ l.initial.list.items ++ take l.sort-index l.sorts
