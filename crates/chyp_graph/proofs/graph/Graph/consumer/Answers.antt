use Rattle.std.proofs.Common.{sym, subst, ◌≡◌, Some, IfSome, IsNone, Contains, ◌↔◌, ◌<◌, length}
use Rattle.chyp_graph.specs.Graph.{source_at}
use Rattle.chyp_graph.proofs.Ports.{read-port, port-at, no-port}
use Rattle.chyp_graph.proofs.graph.Graph.consumer.Goals as goal

pub returns-clause-port : goal.returns-clause-port
returns-clause-port c =
    let w = c.w.inside.0 in
    let r = c.index.result.now in
    let s = c.self.inside in
    let below : w < length s.wires.items = subst (λ g. w < length g.wires) (sym c.self.view_is) (subst (λ v. v < length c.args.self.now.wires) (sym c.w.view_is) c.requires) in
    let port = read-port (λ e. e.sources) s.edges.items (length s.wires.items) s.consumers.items c.self.invariant.used w below r c.index.ensures in
    subst (λ g. IfSome r (λ p. source_at g p.0 p.1 ≡ Some c.args.w)) c.self.view_is
    (subst (λ v. IfSome r (λ p. source_at (record { wires = s.wires.items; edges = s.edges.items; inputs = s.inputs.items; outputs = s.outputs.items }) p.0 p.1 ≡ Some v)) c.w.view_is
    (port-at (λ e. e.sources) s.edges.items w r port))

pub returns-clause-output : goal.returns-clause-output
returns-clause-output c =
    let w = c.w.inside.0 in
    let r = c.index.result.now in
    let s = c.self.inside in
    let below : w < length s.wires.items = subst (λ g. w < length g.wires) (sym c.self.view_is) (subst (λ v. v < length c.args.self.now.wires) (sym c.w.view_is) c.requires) in
    let port = read-port (λ e. e.sources) s.edges.items (length s.wires.items) s.consumers.items c.self.invariant.used w below r c.index.ensures in
    subst (λ g. IsNone r ↔ Contains g.outputs c.args.w) c.self.view_is
    (subst (λ v. IsNone r ↔ Contains s.outputs.items v) c.w.view_is
    (no-port (λ e. e.sources) s.edges.items (length s.wires.items) s.outputs.items c.self.invariant.valid.consumers w below r port))
