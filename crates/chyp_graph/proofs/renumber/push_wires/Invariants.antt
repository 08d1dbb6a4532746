use Rattle.std.proofs.Common.{◌≡◌, ◌++◌, map, slice_index, take}
use Rattle.chyp_graph.proofs.renumber.push_wires.Given as goal

abbrev pub invariant-loop-wire : goal.invariant-loop-wire
invariant-loop-wire l = l.list.items ≡ l.initial.list.items ++ map (slice_index l.numbers) (take l.wire-index l.wires)
