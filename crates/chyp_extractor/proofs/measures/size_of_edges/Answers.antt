use Rattle.std.proofs.Common.{arith}
use Rattle.chyp_term.proofs.Closure.{get-item}
use Rattle.chyp_graph.specs.Graph.{lent_edge}
use Rattle.chyp_extractor.proofs.Capped.{sizes-next}
use Rattle.chyp_extractor.proofs.measures.size_of_edges.Goals as goal

pub loop-k-preserved : goal.loop-k-preserved
loop-k-preserved c =
    let ks = c.args.edges.now in
    let i = c.loop-k.k-index in
    let n = sizes-next c.args.graph.now.edges ks i c.k-item.result (lent_edge c.edge-edge.result) (get-item ks i c.k-item.result c.loop-k-test.true c.k-item.is) c.edge-edge.ensures in
    let a = c.saturating_add.ensures in
    let b = c.saturating_add-in-loop-k.ensures in
    let d = c.saturating_add-size.ensures in
    let s = c.loop-k.invariant in
    omega arith
