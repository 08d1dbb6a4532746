use Rattle.chyp_iso.proofs.Finishing.{counts-answer, counts-differ}
use Rattle.chyp_iso.proofs.find.same_counts.Goals as goal

pub returns-then-edge_count : goal.returns-then-edge_count
returns-then-edge_count c =
    counts-answer c.args.a.now c.args.b.now _ _ _ _ c.edge_count.ensures.count c.edge_count-2.ensures.count c.if-edge_count.true c.wire_count.ensures.count c.wire_count-then-edge_count.ensures.count

pub returns-else-edge_count : goal.returns-else-edge_count
returns-else-edge_count c = counts-differ c.args.a.now c.args.b.now _ _ c.edge_count.ensures.count c.edge_count-2.ensures.count c.if-edge_count.false
