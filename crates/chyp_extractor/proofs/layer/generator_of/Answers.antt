use Rattle.std.proofs.Common.{length, refl}
use Rattle.chyp_graph.specs.Graph.{lent_edge}
use Rattle.chyp_graph.proofs.Removing.{sources-within, targets-wires}
use Rattle.chyp_extractor.proofs.layer.generator_of.Goals as goal

pub sorts_at-requires : goal.sorts_at-requires
sorts_at-requires c = sources-within c.args.graph.now c.valid.ensures.valid c.args.k (length c.args.graph.now.wires) (lent_edge c.edge-edge.result) c.edge-edge.ensures refl

pub sorts_at-requires-2 : goal.sorts_at-requires-2
sorts_at-requires-2 c = targets-wires c.args.graph.now c.valid.ensures.valid c.args.k (lent_edge c.edge-edge.result) c.edge-edge.ensures
