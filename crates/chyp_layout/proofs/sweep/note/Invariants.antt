use Rattle.std.proofs.Common.{ℕ, ◌≡◌, ◌<◌, length, slice_index, take}
use Rattle.chyp_layout.specs.Sweep.{place_on}
use Rattle.chyp_layout.proofs.sweep.note.Given as goal

abbrev pub invariant-loop-place : goal.invariant-loop-place
invariant-loop-place l = (length l.places ≡ length l.graph.wires) × ((w : ℕ) → w < length l.graph.wires → slice_index l.places w ≡ place_on l.graph l.side (take l.place l.items) w)
