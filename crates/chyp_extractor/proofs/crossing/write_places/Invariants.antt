use Rattle.std.proofs.Common.{ℕ, ◌<◌, ◌≡◌, slice_index}
use Rattle.chyp_extractor.proofs.crossing.write_places.Given as goal

abbrev pub invariant-loop-i : goal.invariant-loop-i
invariant-loop-i l = (j : ℕ) → j < l.i → slice_index l.table (slice_index l.live j) ≡ j
