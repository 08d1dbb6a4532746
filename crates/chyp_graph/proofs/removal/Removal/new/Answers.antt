use Rattle.chyp_graph.proofs.Removing.{removal-start}
use Rattle.chyp_graph.proofs.removal.Removal.new.Goals as goal

pub returns : goal.returns
returns c =
    removal-start c.args.graph.now c.in_ok-vec.field-0.items c.in_ok-vec-2.field-0.items c.in_ok-without_sources.field-0.items c.wire_count.result
    c.edge_count.result c.requires c.wire_count.ensures.count c.edge_count.ensures.count
    (c.in_ok-vec.ensures.items_if_clones_equal (λ y e. e)) (c.in_ok-vec-2.ensures.items_if_clones_equal (λ y e. e)) c.in_ok-without_sources.ensures
