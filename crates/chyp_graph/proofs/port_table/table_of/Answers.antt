use Rattle.std.proofs.Common.{◌∙◌, ◌≡◌, ◌+◌, take, sym, subst, ap, length, All, ◌<◌}
use Rattle.chyp_graph.specs.Graph.{IsTable}
use Rattle.chyp_graph.specs.PortTable.{AreNoted, HasPortsWithin, ports_on}
use Rattle.chyp_term.proofs.Slices.{all-is, written-back}
use Rattle.chyp_term.proofs.Closure.{get-item}
use Rattle.chyp_graph.proofs.Ports.{table-more}
use Rattle.chyp_graph.proofs.port_table.table_of.Goals as goal

pub note-requires-clause-within : goal.note-requires-clause-within
note-requires-clause-within c =
    let e = c.index-edges-k.result in
    let p = all-is (HasPortsWithin c.args.side c.args.wires) c.args.edges.now c.loop-k.k e c.loop-k-test.true c.index-edges-k.is c.requires.ports in
    let size : length c.deref_mut.result.now ≡ c.args.wires = ap length c.deref_mut.ensures.value ∙ c.loop-k.invariant.size in
    subst (λ n. All (λ w. w < n) c.ports_on.result.now) (sym size) (subst (All (λ w. w < c.args.wires)) (sym c.ports_on.ensures) p.1)

pub note-requires-clause-short : goal.note-requires-clause-short
note-requires-clause-short c =
    let e = c.index-edges-k.result in
    let p = all-is (HasPortsWithin c.args.side c.args.wires) c.args.edges.now c.loop-k.k e c.loop-k-test.true c.index-edges-k.is c.requires.ports in
    subst (λ l. length l < 4294967296) (sym c.ports_on.ensures) p.0

pub loop-k-preserved : goal.loop-k-preserved
loop-k-preserved c =
    let e = c.index-edges-k.result in
    let n = c.note.ensures in
    let size : length c.note.new.table ≡ length c.loop-k.table.items = n.0 ∙ ap length c.deref_mut.ensures.value in
    let noted = subst (λ l. AreNoted c.loop-k.k (ports_on c.args.side e) l c.note.new.table) c.deref_mut.ensures.value
    (subst (λ l. AreNoted c.loop-k.k l c.deref_mut.result.now c.note.new.table) c.ports_on.ensures n) in
    subst (IsTable (ports_on c.args.side) (take (c.loop-k.k + 1) c.args.edges.now) c.args.wires) (sym (written-back c.note.new.table c.loop-k.table.items c.loop-k.table.len c.loop-k.table.ok.0 size))
    (table-more (ports_on c.args.side) c.args.edges.now c.loop-k.k e c.args.wires c.loop-k.table.items c.note.new.table
    (get-item c.args.edges.now c.loop-k.k e c.loop-k-test.true c.index-edges-k.is) c.loop-k.invariant noted)
