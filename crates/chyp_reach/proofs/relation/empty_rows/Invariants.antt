use Rattle.std.proofs.Common.{◌≡◌, ◌<◌, ℕ, [], false, length, slice_index_or}
use Rattle.chyp_reach.specs.Relation.{relates}
use Rattle.chyp_reach.proofs.relation.empty_rows.Given as goal

abbrev pub invariant-loop : goal.invariant-loop
invariant-loop l = record {
  many : length l.rows.items ≡ l.counter;
  long : (i : ℕ) → i < length l.rows.items → length (slice_index_or l.rows.items i []) ≡ l.count;
  none : (i j : ℕ) → relates l.rows.items i j ≡ false;
}
