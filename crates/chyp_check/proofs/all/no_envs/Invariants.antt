use Rattle.std.proofs.Common.{◌≡◌, ℕ, None, length, slice_index_or}
use Rattle.chyp_check.proofs.all.no_envs.Given as goal

abbrev pub invariant-loop : goal.invariant-loop
invariant-loop l = record {
  count : length l.envs.items ≡ l.counter;
  none : (i : ℕ) → slice_index_or l.envs.items i None ≡ None;
}
