use Rattle.std.proofs.Common.{◌≡◌, ◌+◌, ◌*◌, ◌≤◌, All, length}
use Rattle.std.specs.List.{sum_by}
use Rattle.chyp_picture.specs.Crossings.{crossing_number}
use Rattle.chyp_layout.proofs.crossings.sum_of.Given as goal

abbrev pub invariant-loop-gap : goal.invariant-loop-gap
invariant-loop-gap l = record {
  short : All (λ pieces. length pieces ≤ 4294967296) l.gaps.items;
  few : length l.gaps.items ≤ length l.initial.gaps.items;
  low : l.count + length l.gaps.items * 18446744073709551616 ≤ length l.initial.gaps.items * 18446744073709551616;
  sum : l.count + sum_by crossing_number l.gaps.items ≡ sum_by crossing_number l.initial.gaps.items;
}

abbrev pub decreases-loop-gap : goal.decreases-loop-gap
decreases-loop-gap l = length l.gaps.items
