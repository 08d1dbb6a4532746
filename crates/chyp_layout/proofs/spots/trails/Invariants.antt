use Rattle.std.proofs.Common.{◌≡◌, map, take}
use Rattle.std.specs.List.{range_with_len}
use Rattle.chyp_layout.specs.Spots.{bends_on}
use Rattle.chyp_layout.proofs.spots.trails.Given as goal

abbrev pub invariant-loop-p : goal.invariant-loop-p
invariant-loop-p l = l.trails.items ≡ map (bends_on (take l.p-index l.placed)) (range_with_len 0 l.count)
