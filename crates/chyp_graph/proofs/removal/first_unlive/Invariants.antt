use Rattle.std.proofs.Common.{ℕ, ◌≡◌, ◌<◌, ◌≤◌, true, Some, slice_get}
use Rattle.chyp_graph.proofs.removal.first_unlive.Given as goal

abbrev pub invariant-loop-i : goal.invariant-loop-i
invariant-loop-i l = (i w : ℕ) → l.from ≤ i → i < l.i → slice_get l.wires i ≡ Some w → slice_get l.live w ≡ Some true
