use Rattle.std.proofs.Common.{◌≡◌, map, slice_index, take}
use Rattle.chyp_work.proofs.plain.wires_at.Given as goal

abbrev pub invariant-loop-w : goal.invariant-loop-w
invariant-loop-w l = l.at.items ≡ map (slice_index l.places) (take l.w-index l.wires)
