use Rattle.std.proofs.Common.{ℕ, ◌<◌, get_or}
use Rattle.chyp_picture.specs.declared.box_at.BoxAt.{BoxAt}
use Rattle.chyp_picture.specs.Picture.{IsLowBox}
use Rattle.chyp_picture_tests.proofs.whole.are_low_boxes.Given as goal

abbrev pub invariant-loop-part : goal.invariant-loop-part
invariant-loop-part l = (k : ℕ) (d : BoxAt) → k < l.part-index → IsLowBox (get_or l.boxes k d)
