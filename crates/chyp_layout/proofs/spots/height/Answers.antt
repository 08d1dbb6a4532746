use Rattle.std.proofs.Common.{arith, subst}
use Rattle.chyp_graph.specs.PlainGraph.{Edge}
use Rattle.chyp_layout.specs.Side.{IsItem}
use Rattle.chyp_layout.proofs.Placing.{edge-few}
use Rattle.chyp_layout.proofs.spots.height.Goals as goal

pub overflow_mul-result : goal.overflow_mul-result
overflow_mul-result c =
    let b = c.is_bounded.ensures in
    let e : Edge = record { name = c.edge-edge.result.name.now; sources = c.edge-edge.result.sources.now; targets = c.edge-edge.result.targets.now } in
    let f = edge-few c.args.graph.now b.valid b.few_wires c.in-Box.k e c.edge-edge.ensures (subst (IsItem c.args.graph.now) c.in-Box.is c.requires) in
    let x = f.0 in
    let y = f.1 in
    let m = c.max.ensures in
    let n = c.max-in-Box.ensures in
    omega arith

pub returns-in-Box-clause-few : goal.returns-in-Box-clause-few
returns-in-Box-clause-few c =
    let b = c.is_bounded.ensures in
    let e : Edge = record { name = c.edge-edge.result.name.now; sources = c.edge-edge.result.sources.now; targets = c.edge-edge.result.targets.now } in
    let f = edge-few c.args.graph.now b.valid b.few_wires c.in-Box.k e c.edge-edge.ensures (subst (IsItem c.args.graph.now) c.in-Box.is c.requires) in
    let x = f.0 in
    let y = f.1 in
    let m = c.max.ensures in
    let n = c.max-in-Box.ensures in
    omega arith
