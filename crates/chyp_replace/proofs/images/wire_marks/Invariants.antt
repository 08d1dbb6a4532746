use Rattle.std.proofs.Common.{take}
use Rattle.chyp_replace.specs.Images.{AreMarked}
use Rattle.chyp_replace.proofs.images.wire_marks.Given as goal

abbrev pub invariant-loop-wire : goal.invariant-loop-wire
invariant-loop-wire l = AreMarked (take l.wire-index l.images) l.count l.marks.items
