use Rattle.std.proofs.Common.{ℕ, ◌≡◌, ◌<◌, length, slice_index}
use Rattle.chyp_graph.proofs.graph.at_inputs.Given as goal

abbrev pub invariant-loop-j : goal.invariant-loop-j
invariant-loop-j l = (length l.numbers.items ≡ l.wires) × ((i : ℕ) → i < l.j → slice_index l.numbers.items (slice_index l.inputs i) ≡ slice_index l.outputs i)
