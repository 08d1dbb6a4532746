use Rattle.std.proofs.Common.{ℕ, ◌<◌, ◌≡◌, length, slice_index}
use Rattle.chyp_term.proofs.perm.inverse_places.Given as goal

abbrev pub invariant-loop-i : goal.invariant-loop-i
invariant-loop-i l = record {
  size : length l.inverse.items ≡ length l.places;
  at : (j : ℕ) → j < l.i → slice_index l.inverse.items (slice_index l.places j) ≡ j;
}
