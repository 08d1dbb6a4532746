use Rattle.std.proofs.Common.{◌≡◌, ◌<◌, ◌+◌, true, All, length, sym, subst, arith}
use Rattle.chyp_term.specs.Positions.{is_among}
use Rattle.chyp_graph.specs.PlainGraph.{Edge}
use Rattle.chyp_graph.specs.Removal.{AreLive, IsRemoval, live_behind}
use Rattle.chyp_term.proofs.Closure.{get-item}
use Rattle.chyp_graph.proofs.Removing.{AreTargetsLive, inputs-made, inputs-wires, removal-end, targets-end, targets-made, targets-more, targets-wires}
use Rattle.chyp_graph.proofs.removal.topological_order.Goals as goal
use Rattle.chyp_graph.proofs.removal.topological_order.Goals.{then-j-len+in_ok-make_all_live-2, else-j-len}

pub make_all_live-requires-clause-wires : goal.make_all_live-requires-clause-wires
make_all_live-requires-clause-wires c = subst (All (λ w. w < length c.args.graph.now.wires)) (sym c.inputs-inputs.ensures.inputs) (inputs-wires c.args.graph.now c.inputs-inputs.ensures.valid)

pub make_all_live-requires-clause-made : goal.make_all_live-requires-clause-made
make_all_live-requires-clause-made c =
    subst (All (λ w. is_among (live_behind c.args.graph.now c.in_ok-removal.removal.order.items) w ≡ true)) (sym c.inputs-inputs.ensures.inputs)
    (inputs-made c.args.graph.now c.in_ok-removal.removal.order.items)

pub make_all_live-requires-then-j-len-clause-wires : goal.make_all_live-requires-then-j-len-clause-wires
make_all_live-requires-then-j-len-clause-wires c =
    let e : Edge = record { name = c.edge.result.name.now; sources = c.edge.result.sources.now; targets = c.edge.result.targets.now } in
    targets-wires c.args.graph.now c.inputs-inputs.ensures.valid c.index.result.now e c.edge.ensures

pub make_all_live-requires-then-j-len-clause-made : goal.make_all_live-requires-then-j-len-clause-made
make_all_live-requires-then-j-len-clause-made c =
    let e : Edge = record { name = c.edge.result.name.now; sources = c.edge.result.sources.now; targets = c.edge.result.targets.now } in
    let order = c.loop-j.removal.order.items in
    let o = c.loop-j.removal.order.ok.0 in
    let t = c.if-j-len.true in
    let l = c.len.ensures in
    targets-made c.args.graph.now order c.loop-j.j c.index.result.now e (get-item order c.loop-j.j c.index.result.now (omega arith) c.index.ensures) c.edge.ensures

pub loop-j-preserved : goal.loop-j-preserved
loop-j-preserved c =
    let g = c.args.graph.now in
    let order = c.loop-j.removal.order.items in
    let o = c.loop-j.removal.order.ok.0 in
    let l = c.len.ensures in
    elim c.if-j-len.branch [
      | then-j-len+in_ok-make_all_live-2 w ↦
          let e : Edge = record { name = w.edge.result.name.now; sources = w.edge.result.sources.now; targets = w.edge.result.targets.now } in
          let t = w.if-j-len.true in
          let m = w.in_ok-make_all_live-2.ensures in
          let n = w.make_all_live-then-j-len.new.self in
          subst (λ r. record { removal : IsRemoval g r; inputs : AreLive r.live.items g.inputs; targets : AreTargetsLive g r.live.items r.order.items (c.loop-j.j + 1) }) (sym w.removal-is)
          (record {
            removal = m.removal;
            inputs = λ i v h. m.stay v (c.loop-j.invariant.inputs i v h);
            targets =
                targets-more g c.loop-j.removal.live.items n.live.items order n.order.items c.loop-j.j w.index.result.now e c.loop-j.invariant.targets
                (get-item order c.loop-j.j w.index.result.now (omega arith) w.index.ensures) w.edge.ensures m.stay m.live m.order;
          })
      | else-j-len w ↦
          let t = w.if-j-len.false in
          subst (λ r. record { removal : IsRemoval g r; inputs : AreLive r.live.items g.inputs; targets : AreTargetsLive g r.live.items r.order.items (c.loop-j.j + 1) }) (sym w.removal-is)
          (record {
            removal = c.loop-j.invariant.removal;
            inputs = c.loop-j.invariant.inputs;
            targets = targets-end g c.loop-j.removal.live.items order c.loop-j.j c.loop-j.invariant.targets (omega arith);
          })
    ]

pub returns : goal.returns
returns c =
    let r = c.loop-j.removal in
    let t = c.loop-j-test.false in
    let n = c.edge_count-j-end.ensures.count in
    removal-end c.args.graph.now r.live.items r.waits.items r.order.items c.loop-j.j c.inputs-inputs.ensures.valid c.loop-j.invariant.removal c.loop-j.invariant.inputs c.loop-j.invariant.targets
    (omega arith)
