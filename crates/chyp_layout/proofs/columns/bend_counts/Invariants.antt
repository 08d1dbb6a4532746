use Rattle.std.proofs.Common.{◌≡◌, ◌*◌, ◌≤◌, take}
use Rattle.std.specs.List.{sum_by}
use Rattle.chyp_layout.specs.Columns.{bend_count}
use Rattle.chyp_layout.proofs.columns.bend_counts.Given as goal

abbrev pub invariant-loop-x : goal.invariant-loop-x
invariant-loop-x l = (l.bends ≡ sum_by (bend_count l.columns) (take l.x-index l.ends)) × (l.bends ≤ l.x-index * 2147483648)
