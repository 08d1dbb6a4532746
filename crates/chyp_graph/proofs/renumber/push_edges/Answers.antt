use Rattle.std.proofs.Common.{◌<◌, All, length}
use Rattle.chyp_term.proofs.Slices.{all-is}
use Rattle.chyp_graph.proofs.renumber.push_edges.Goals as goal

pub renumbered-requires : goal.renumbered-requires
renumbered-requires c =
    (all-is (λ e. All (λ w. w < length c.args.numbers.now) e.sources × All
    (λ w. w < length c.args.numbers.now) e.targets) c.args.edges.now c.loop-edge.edge-index c.edge-item.result c.loop-edge-test.true c.edge-item.is c.requires).0

pub renumbered-requires-in-loop-edge : goal.renumbered-requires-in-loop-edge
renumbered-requires-in-loop-edge c =
    (all-is (λ e. All (λ w. w < length c.args.numbers.now) e.sources × All
    (λ w. w < length c.args.numbers.now) e.targets) c.args.edges.now c.loop-edge.edge-index c.edge-item.result c.loop-edge-test.true c.edge-item.is c.requires).1
