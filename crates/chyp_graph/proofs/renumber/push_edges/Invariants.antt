use Rattle.std.proofs.Common.{◌≡◌, ◌++◌, map, slice_index, take}
use Rattle.chyp_graph.specs.PlainGraph.{renamed}
use Rattle.chyp_graph.proofs.renumber.push_edges.Given as goal

abbrev pub invariant-loop-edge : goal.invariant-loop-edge
invariant-loop-edge l = l.list.items ≡ l.initial.list.items ++ map (renamed (slice_index l.numbers)) (take l.edge-index l.edges)
