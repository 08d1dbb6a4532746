use Rattle.std.proofs.Common.{ℕ, ◌<◌, get_or}
use Rattle.chyp_picture.specs.declared.line.Line.{Line}
use Rattle.chyp_picture.specs.Picture.{IsDrawn}
use Rattle.chyp_picture_tests.proofs.whole.are_drawn.Given as goal

abbrev pub invariant-loop-line : goal.invariant-loop-line
invariant-loop-line l = (k : ℕ) (d : Line) → k < l.line-index → IsDrawn l.picture (get_or l.lines k d)
