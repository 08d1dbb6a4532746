use Rattle.std.proofs.Common.{◌≡◌, map, slice_index, take}
use Rattle.chyp_store.specs.Items.{ids}
use Rattle.chyp_work.proofs.numbering.wires_at.Given as goal

abbrev pub invariant-loop-w : goal.invariant-loop-w
invariant-loop-w l = l.wires.items ≡ map (slice_index (ids l.board.wires.items)) (take l.w-index l.places)
