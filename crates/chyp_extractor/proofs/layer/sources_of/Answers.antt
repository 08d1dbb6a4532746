use Rattle.std.proofs.Common.{◌++◌, ◌∙◌, ap, sym}
use Rattle.chyp_graph.specs.Graph.{lent_edge}
use Rattle.chyp_graph.specs.PlainGraph.{Edge}
use Rattle.chyp_term.proofs.Closure.{get-item}
use Rattle.chyp_extractor.proofs.Lists.{flat-next}
use Rattle.chyp_extractor.proofs.layer.sources_of.Goals as goal

pub loop-k-preserved : goal.loop-k-preserved
loop-k-preserved c =
    let ks = c.args.edges.now in
    let i = c.loop-k.k-index in
    c.in_ok-extend_from_slice.ensures.items ∙ ap (λ l. l ++ c.edge.result.sources.now) c.loop-k.invariant
    ∙ sym (flat-next (λ (e : Edge). e.sources) c.args.graph.now.edges ks i c.k-item.result (lent_edge c.edge.result) (get-item ks i c.k-item.result c.loop-k-test.true c.k-item.is) c.edge.ensures)
