use Rattle.std.proofs.Common.{◌≡◌, ◌<◌, ◌∙◌, Some, length, sym, ap, arith}
use Rattle.chyp_term.proofs.Slices.{all-is}
use Rattle.chyp_term.proofs.Closure.{get-item}
use Rattle.chyp_graph.proofs.Levelling.{written-more}
use Rattle.chyp_layout.proofs.sweep.write_at.Goals as goal

pub loop-w-preserved : goal.loop-w-preserved
loop-w-preserved c =
    let i = c.loop-w.w-index in
    let b = all-is (λ w. w < length c.args.places.now) c.args.wires.now i c.w-item.result c.loop-w-test.true c.w-item.is c.requires in
    let v : c.w.inside.0 ≡ c.w-item.result = c.w.view_is in
    written-more c.args.wires.now i c.w.inside.0 c.args.place c.args.places.now c.loop-w.places
    (get-item c.args.wires.now i c.w-item.result c.loop-w-test.true c.w-item.is ∙ ap (λ x. Some x) (sym v)) (omega arith) c.loop-w.invariant
