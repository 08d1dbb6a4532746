use Rattle.std.proofs.Common.{sym, subst, ◌≡◌, Some, IfSome, IsNone, Contains, ◌↔◌, ◌<◌, length}
use Rattle.chyp_graph.specs.Graph.{target_at}
use Rattle.chyp_graph.proofs.Ports.{read-port, port-at, no-port}
use Rattle.chyp_graph.proofs.graph.Graph.producer.Goals as goal

pub returns-clause-port : goal.returns-clause-port
returns-clause-port c =
    let w = c.w.inside.0 in
    let r = c.index.result.now in
    let s = c.self.inside in
    let below : w < length s.wires.items = subst (λ g. w < length g.wires) (sym c.self.view_is) (subst (λ v. v < length c.args.self.now.wires) (sym c.w.view_is) c.requires) in
    let port = read-port (λ e. e.targets) s.edges.items (length s.wires.items) s.producers.items c.self.invariant.made w below r c.index.ensures in
    subst (λ g. IfSome r (λ p. target_at g p.0 p.1 ≡ Some c.args.w)) c.self.view_is
    (subst (λ v. IfSome r (λ p. target_at (record { wires = s.wires.items; edges = s.edges.items; inputs = s.inputs.items; outputs = s.outputs.items }) p.0 p.1 ≡ Some v)) c.w.view_is
    (port-at (λ e. e.targets) s.edges.items w r port))

pub returns-clause-input : goal.returns-clause-input
returns-clause-input c =
    let w = c.w.inside.0 in
    let r = c.index.result.now in
    let s = c.self.inside in
    let below : w < length s.wires.items = subst (λ g. w < length g.wires) (sym c.self.view_is) (subst (λ v. v < length c.args.self.now.wires) (sym c.w.view_is) c.requires) in
    let port = read-port (λ e. e.targets) s.edges.items (length s.wires.items) s.producers.items c.self.invariant.made w below r c.index.ensures in
    subst (λ g. IsNone r ↔ Contains g.inputs c.args.w) c.self.view_is
    (subst (λ v. IsNone r ↔ Contains s.inputs.items v) c.w.view_is
    (no-port (λ e. e.targets) s.edges.items (length s.wires.items) s.inputs.items c.self.invariant.valid.producers w below r port))
