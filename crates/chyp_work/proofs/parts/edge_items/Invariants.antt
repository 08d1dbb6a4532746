use Rattle.std.proofs.Common.{◌≡◌, map, take}
use Rattle.chyp_work.specs.Board.{edge_of}
use Rattle.chyp_work.proofs.parts.edge_items.Given as goal

abbrev pub invariant-loop-k : goal.invariant-loop-k
invariant-loop-k l = map edge_of l.edges.items ≡ take l.k l.graph.edges
