use Rattle.std.proofs.Common.{ℕ, ◌≡◌, ◌+◌, ◌<◌, ◌⊎◌, slice_index}
use Rattle.chyp_graph.proofs.levels.round_after.Given as goal

abbrev pub invariant-loop-w : goal.invariant-loop-w
invariant-loop-w l = record {
  above : (i : ℕ) → i < l.w-index → slice_index l.levels (slice_index l.wires i) < l.round;
  least : (l.round ≡ 1) ⊎ ((i : ℕ) × (i < l.w-index) × (slice_index l.levels (slice_index l.wires i) + 1 ≡ l.round));
}
