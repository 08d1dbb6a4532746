use Rattle.std.proofs.Common.{ℕ, ◌≡◌, map, slice_index, take}
use Rattle.chyp_graph.specs.PlainGraph.{renamed}
use Rattle.chyp_work.specs.Board.{edge_of}
use Rattle.chyp_work.specs.declared.board.EdgeItem.{EdgeItem}
use Rattle.chyp_work.proofs.plain.parts_of.Given as goal

abbrev pub invariant-loop-k : goal.invariant-loop-k
invariant-loop-k l = l.parts.items ≡ map (λ (e : ℕ × EdgeItem). renamed (slice_index l.places) (edge_of e.1)) (take l.k-index l.edges.items)
