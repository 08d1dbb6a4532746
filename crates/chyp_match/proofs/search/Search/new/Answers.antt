use Rattle.chyp_match.proofs.Starting.{started}
use Rattle.chyp_match.proofs.search.Search.new.Goals as goal

pub returns-clause-search : goal.returns-clause-search
returns-clause-search c =
    started c.args.pattern.now c.args.graph.now c.graph-small.result.now c.in_ok-new.field-0 c.in_ok-new-2.field-0 _ _ _ _ _ _ c.requires c.graph-small.ensures.graph c.valid.ensures.valid
    c.valid-2.ensures.valid
    c.edge_count.ensures.count c.edge_count-2.ensures.count c.wire_count.ensures.count c.wire_count-2.ensures.count c.max-edges.ensures c.max-wires.ensures c.in_ok-new.ensures _
    c.component_count.ensures c.in_ok-new-2.ensures
