use Rattle.std.proofs.Common.{ℕ, ◌≡◌, ◌<◌, length, slice_index, take}
use Rattle.chyp_layout.specs.Sweep.{swept}
use Rattle.chyp_layout.proofs.sweep.swept.Given as goal

abbrev pub invariant-loop-column : goal.invariant-loop-column
invariant-loop-column l = record {
  size : length l.places.items ≡ length l.graph.wires;
  clear : (w : ℕ) → w < length l.graph.wires → slice_index l.places.items w ≡ 0;
  now : l.now.items ≡ swept l.graph l.side l.rim (take l.column-index l.order);
}
