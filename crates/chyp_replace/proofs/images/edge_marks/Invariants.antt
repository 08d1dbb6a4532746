use Rattle.std.proofs.Common.{take}
use Rattle.chyp_replace.specs.Images.{AreMarked}
use Rattle.chyp_replace.proofs.images.edge_marks.Given as goal

abbrev pub invariant-loop-edge : goal.invariant-loop-edge
invariant-loop-edge l = AreMarked (take l.edge-index l.images) l.count l.marks.items
