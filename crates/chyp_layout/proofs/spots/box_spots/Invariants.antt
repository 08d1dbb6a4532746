use Rattle.std.proofs.Common.{◌≡◌, map, take}
use Rattle.std.specs.List.{range_with_len}
use Rattle.chyp_layout.specs.Spots.{box_spot}
use Rattle.chyp_layout.proofs.spots.box_spots.Given as goal

abbrev pub invariant-loop-p : goal.invariant-loop-p
invariant-loop-p l = l.spots.items ≡ map (box_spot (take l.p-index l.placed)) (range_with_len 0 l.count)
