use Rattle.chyp_work.specs.Board.{edge_of}
use Rattle.chyp_work.proofs.Fillings.{map-taken}
use Rattle.chyp_work.proofs.parts.edge_items.Goals as goal

pub loop-k-preserved : goal.loop-k-preserved
loop-k-preserved c = map-taken edge_of c.args.graph.now.edges _ _ c.loop-k.k _ _ c.edge.ensures c.in_ok-item_of.ensures c.loop-k.invariant c.in_ok-push.ensures.items
