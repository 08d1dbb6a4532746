use Rattle.std.proofs.Common.{ℕ, ◌≡◌, ◌<◌, length, slice_index}
use Rattle.chyp_layout.proofs.ends.places_in.Given as goal

abbrev pub invariant-loop-i : goal.invariant-loop-i
invariant-loop-i l = (length l.places.items ≡ l.count) × ((j : ℕ) → j < l.i → slice_index l.places.items (slice_index l.wires j) ≡ j)
