use Rattle.std.proofs.Common.{◌<◌, ◌∙◌, arith, get_or, length, subst, sym}
use Rattle.chyp_term.proofs.Closure.{get-item}
use Rattle.chyp_picture.specs.declared.end.End.TheVariants.{Input}
use Rattle.chyp_layout.specs.PictureOf.{IsPortOn, line_of}
use Rattle.chyp_layout.specs.Spots.{bends_on}
use Rattle.chyp_layout.specs.declared.side.Side.TheVariants.{Left, Right}
use Rattle.chyp_layout.proofs.Drawing.{ends-at, ends-length, from-port_on, line-drawn, table-at, to-port_on}
use Rattle.chyp_layout.proofs.Sweeping.{ranked-more}
use Rattle.chyp_layout.proofs.picture.lines.Goals as goal

pub bounds-ends-w : goal.bounds-ends-w
bounds-ends-w c = let n = ends-length c.args.graph.now c.args.ends.now c.requires.ends in let l = c.loop-w-test.true in let k = c.wire_count-w-end.ensures.count in omega arith

pub end_y-requires-clause-port : goal.end_y-requires-clause-port
end_y-requires-clause-port c =
    let g = c.args.graph.now in
    let l = c.loop-w-test.true in
    let k = c.wire_count-w-end.ensures.count in
    subst (λ x. IsPortOn g Right x.from) (sym (ends-at g c.args.ends.now c.loop-w.w (record { from = Input 0; to = Input 0 }) c.requires.ends (omega arith))) (from-port_on g c.loop-w.w)

pub end_y-requires-in-loop-w-clause-port : goal.end_y-requires-in-loop-w-clause-port
end_y-requires-in-loop-w-clause-port c =
    let g = c.args.graph.now in
    let l = c.loop-w-test.true in
    let k = c.wire_count-w-end.ensures.count in
    subst (λ x. IsPortOn g Left x.to) (sym (ends-at g c.args.ends.now c.loop-w.w (record { from = Input 0; to = Input 0 }) c.requires.ends (omega arith))) (to-port_on g c.loop-w.w)

pub loop-w-preserved : goal.loop-w-preserved
loop-w-preserved c =
    λ placed q b.
    let g = c.args.graph.now in
    let w = c.loop-w.w in
    let l = c.loop-w-test.true in
    let k = c.wire_count-w-end.ensures.count in
    let below : w < length g.wires = omega arith in
    let x = get_or c.args.ends.now w (record { from = Input 0; to = Input 0 }) in
    let trail = table-at (bends_on placed) (length g.wires) w c.args.bends.now c.index-bends-w.result b below (get-item c.args.bends.now w c.index-bends-w.result (omega
    (arith, c.requires.bends)) c.index-bends-w.is) in
    ranked-more (λ p. line_of g placed p.0 p.1) g.wires w c.wire_sort.result.now c.loop-w.lines.items c.push.new.self.items _ c.wire_sort.ensures
    (c.loop-w.invariant placed q b) c.in_ok-push.ensures.items
    (line-drawn g placed w x c.in_ok-share.field-0 c.wire_sort.result.now c.in_ok-bends.field-0 c.end_y.result c.end_y-in-loop-w.result (ends-at g c.args.ends.now w
    (record { from = Input 0; to = Input 0 }) c.requires.ends below)
    c.in_ok-share.ensures (c.in_ok-bends.ensures ∙ trail) (c.end_y.ensures placed q) (c.end_y-in-loop-w.ensures placed q))
