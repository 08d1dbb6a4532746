use Rattle.std.proofs.Common.{◌∙◌, sym, ap, arith, ◌≡◌, Some, slice_get, ◌<◌, length}
use Rattle.chyp_term.proofs.Closure.{get-item}
use Rattle.chyp_graph.proofs.Ports.{noted-more}
use Rattle.chyp_graph.proofs.port_table.note.Goals as goal

pub loop-i-preserved : goal.loop-i-preserved
loop-i-preserved c =
    let h = c.loop-i-test.true in
    let w = c.index-wires-i.result in
    let is : c.wire.inside.0 ≡ w = c.wire.view_is in
    let b = c.requires.within c.loop-i.i w h in
    let r = c.index-wires-i.is in
    let at : slice_get c.args.wires.now c.loop-i.i ≡ Some c.wire.inside.0 = get-item c.args.wires.now c.loop-i.i w h r ∙ ap (λ x. Some x) (sym is) in
    let below : c.wire.inside.0 < length c.args.table.now = omega arith in
    noted-more c.args.edge c.args.wires.now c.loop-i.i c.wire.inside.0 c.args.table.now c.loop-i.table at below c.loop-i.invariant
