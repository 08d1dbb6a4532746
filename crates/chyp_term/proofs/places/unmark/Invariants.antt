use Rattle.std.proofs.Common.{ℕ, ◌%◌, ◌<◌, ◌≤◌, ◌≡◌, slice_index}
use Rattle.chyp_term.proofs.places.unmark.Given as goal

abbrev pub invariant-loop-place : goal.invariant-loop-place
invariant-loop-place l =
    ((j : ℕ) → j < l.place-index → slice_index l.places j ≡ slice_index l.initial.places j % 2147483648)
    × ((j : ℕ) → l.place-index ≤ j → slice_index l.places j ≡ slice_index l.initial.places j)
