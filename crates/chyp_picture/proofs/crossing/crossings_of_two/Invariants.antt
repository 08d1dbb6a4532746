use Rattle.std.proofs.Common.{◌≡◌, ◌≤◌, max}
use Rattle.chyp_picture.proofs.Columns.{at_column, sum_below}
use Rattle.chyp_picture.proofs.crossing.crossings_of_two.Given as goal

abbrev pub invariant-loop-at : goal.invariant-loop-at
invariant-loop-at l = record {
  counted : l.count ≡ sum_below (at_column l.picture l.first l.second) l.at;
  small : l.count ≤ l.at;
  within : l.at ≤ max l.start l.end;
}
