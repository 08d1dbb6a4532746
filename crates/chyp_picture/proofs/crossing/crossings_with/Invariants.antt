use Rattle.std.proofs.Common.{◌≡◌, sum_by, take}
use Rattle.chyp_picture.specs.Crossings.{line_crossings}
use Rattle.chyp_picture.proofs.crossing.crossings_with.Given as goal

abbrev pub invariant-loop-other : goal.invariant-loop-other
invariant-loop-other l = l.count ≡ sum_by (line_crossings l.picture l.line) (take l.other-index l.others)
