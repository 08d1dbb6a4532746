use Rattle.std.proofs.Common.{◌≡◌, ◌+◌, drop}
use Rattle.chyp_picture.specs.Crossings.{line_crossings, sum_of_pairs}
use Rattle.chyp_picture.proofs.crossing.crossings.Given as goal

abbrev pub invariant-loop-index : goal.invariant-loop-index
invariant-loop-index l = l.count + sum_of_pairs (line_crossings l.picture) (drop l.index l.picture.lines) ≡ sum_of_pairs (line_crossings l.picture) l.picture.lines
