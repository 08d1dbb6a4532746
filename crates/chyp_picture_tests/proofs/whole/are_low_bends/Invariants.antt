use Rattle.std.proofs.Common.{ℕ, ◌<◌, ◌^◌, get_or}
use Rattle.chyp_picture.specs.declared.point.Point.{Point}
use Rattle.chyp_picture_tests.proofs.whole.are_low_bends.Given as goal

abbrev pub invariant-loop-bend : goal.invariant-loop-bend
invariant-loop-bend l = (k : ℕ) (d : Point) → k < l.bend-index → (get_or l.bends k d).y < 2 ^ 40
