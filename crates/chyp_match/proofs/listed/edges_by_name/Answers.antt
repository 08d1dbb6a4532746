use Rattle.chyp_graph.specs.PlainGraph.{Edge}
use Rattle.chyp_match.proofs.Filing.{filed}
use Rattle.chyp_match.proofs.listed.edges_by_name.Goals as goal

pub loop-k-preserved : goal.loop-k-preserved
loop-k-preserved c = filed (λ (e : Edge). e.name) c.args.graph.now.edges c.loop-k.k _ c.loop-k.lists c.add.new.self c.edge.ensures c.loop-k.invariant c.in_ok-add.ensures.added
    c.in_ok-add.ensures.others
