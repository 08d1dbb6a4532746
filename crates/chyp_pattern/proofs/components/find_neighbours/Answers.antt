use Rattle.std.proofs.Common.{length, refl}
use Rattle.chyp_graph.specs.PlainGraph.{Edge}
use Rattle.chyp_pattern.proofs.Joined.{neighbours-found}
use Rattle.chyp_graph.proofs.Removing.{sources-within, targets-wires}
use Rattle.chyp_pattern.proofs.components.find_neighbours.Goals as goal

pub find_all-requires-clause-there : goal.find_all-requires-clause-there
find_all-requires-clause-there c =
    let e : Edge = record { name = c.edge-edge.result.name.now; sources = c.edge-edge.result.sources.now; targets = c.edge-edge.result.targets.now } in
    sources-within c.args.graph.now c.requires.valid c.args.k (length c.args.graph.now.wires) e c.edge-edge.ensures refl

pub find_all-requires-2-clause-there : goal.find_all-requires-2-clause-there
find_all-requires-2-clause-there c =
    let e : Edge = record { name = c.edge-edge.result.name.now; sources = c.edge-edge.result.sources.now; targets = c.edge-edge.result.targets.now } in
    targets-wires c.args.graph.now c.requires.valid c.args.k e c.edge-edge.ensures

pub returns : goal.returns
returns c =
    let e : Edge = record { name = c.edge-edge.result.name.now; sources = c.edge-edge.result.sources.now; targets = c.edge-edge.result.targets.now } in
    neighbours-found c.args.graph.now c.args.k e c.args.sweep.now c.find_all.new.sweep c.find_all-2.new.sweep c.edge-edge.ensures c.find_all.ensures c.find_all-2.ensures
