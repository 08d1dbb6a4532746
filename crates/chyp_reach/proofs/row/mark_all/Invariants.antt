use Rattle.std.proofs.Common.{◌≡◌, ◌<◌, ◌≤◌, ◌||◌, ℕ, false, length, slice_index_or}
use Rattle.chyp_reach.proofs.row.mark_all.Given as goal

abbrev pub invariant-loop-at : goal.invariant-loop-at
invariant-loop-at l = record {
  below : (n : ℕ) → n < l.at → slice_index_or l.marks n false ≡ (slice_index_or l.initial.marks n false || slice_index_or l.more n false);
  behind : (n : ℕ) → l.at ≤ n → slice_index_or l.marks n false ≡ slice_index_or l.initial.marks n false;
  long : length l.marks ≡ length l.more;
}
