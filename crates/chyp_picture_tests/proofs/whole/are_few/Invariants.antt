use Rattle.std.proofs.Common.{◌≡◌, ◌+◌, take}
use Rattle.chyp_picture.specs.Picture.{bend_count}
use Rattle.chyp_picture_tests.proofs.whole.are_few.Given as goal

abbrev pub invariant-loop-line : goal.invariant-loop-line
invariant-loop-line l = bend_count (take l.line-index l.lines) + l.left ≡ l.most
