use Rattle.std.proofs.Common.{ℕ, ◌<◌, ◌≡◌, false, Some, slice_get}
use Rattle.chyp_judge.proofs.difference.Difference.is_spared_by.Given as goal

abbrev pub invariant-loop-wire : goal.invariant-loop-wire
invariant-loop-wire l = (i w : ℕ) → i < l.wire-index → slice_get l.wire-items i ≡ Some w → slice_get l.self.path.items w ≡ Some false
