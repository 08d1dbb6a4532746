use Rattle.std.proofs.Common.{ℕ, ◌≡◌, ◌<◌, length, slice_index, take}
use Rattle.chyp_layout.proofs.Places.{cleared}
use Rattle.chyp_layout.proofs.sweep.clear.Given as goal

abbrev pub invariant-loop-item : goal.invariant-loop-item
invariant-loop-item l = (length l.places ≡ length l.graph.wires) × ((w : ℕ) → w < length l.graph.wires
    → slice_index l.places w ≡ cleared l.graph l.side w (slice_index l.initial.places w) (take l.item-index l.items))
