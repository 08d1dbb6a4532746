use Rattle.std.proofs.Common.{◌≡◌, ◌*◌, ◌≤◌, take}
use Rattle.chyp_layout.specs.PictureOf.{column_height}
use Rattle.chyp_layout.proofs.picture.column_height.Given as goal

abbrev pub invariant-loop-item : goal.invariant-loop-item
invariant-loop-item l = (l.sum ≡ column_height l.graph (take l.item-index l.items)) × (l.sum ≤ l.item-index * 42949672980)
