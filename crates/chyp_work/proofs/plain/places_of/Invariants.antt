use Rattle.std.proofs.Common.{ℕ, ◌≡◌, ◌<◌, Some, length, slice_get, slice_index}
use Rattle.chyp_work.proofs.plain.places_of.Given as goal

abbrev pub invariant-loop-i : goal.invariant-loop-i
invariant-loop-i l = record {
  size : length l.places.items ≡ length l.initial.places.items;
  noted : (j w : ℕ) → j < l.i → slice_get l.w-items j ≡ Some w → slice_index l.places.items w ≡ j;
}
