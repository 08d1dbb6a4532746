use Rattle.std.proofs.Common.{length}
use Rattle.chyp_graph.specs.PlainGraph.{Edge}
use Rattle.chyp_replace.specs.Renumbered.{renumbered_edge}
use Rattle.chyp_replace.proofs.Keeping.{ports-in, pushed-map}
use Rattle.chyp_replace.proofs.renumbered.push_edges.Goals as goal

pub renumbered_edge-requires-clause-sources : goal.renumbered_edge-requires-clause-sources
renumbered_edge-requires-clause-sources c = (ports-in c.args.graph.now c.requires.valid c.loop-k.k _ c.edge-edge.ensures (length c.args.numbers.now) c.requires.numbers).0

pub renumbered_edge-requires-clause-targets : goal.renumbered_edge-requires-clause-targets
renumbered_edge-requires-clause-targets c = (ports-in c.args.graph.now c.requires.valid c.loop-k.k _ c.edge-edge.ensures (length c.args.numbers.now) c.requires.numbers).1

pub loop-k-preserved : goal.loop-k-preserved
loop-k-preserved c =
    let edges = c.args.graph.now.edges in
    let k = c.loop-k.k in
    let e : Edge = record { name = c.edge-edge.result.name.now; sources = c.edge-edge.result.sources.now; targets = c.edge-edge.result.targets.now } in
    let f = renumbered_edge c.args.numbers.now c.args.numbers.now in
    pushed-map f c.args.list.now.items edges c.loop-k.list.items c.push.new.self.items k e c.in_ok-renumbered_edge.field-0 c.edge-edge.ensures
    c.in_ok-renumbered_edge.ensures c.loop-k.invariant c.in_ok-push.ensures.items
