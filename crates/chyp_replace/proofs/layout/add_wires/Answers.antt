use Rattle.std.proofs.Common.{◌∙◌, ◌++◌, ◌∷◌, [], ◌<◌, arith, length, ap}
use Rattle.chyp_graph.proofs.Leaves.{pushed-item, pushed-number, length-grown}
use Rattle.chyp_replace.proofs.Keeping.{read-item}
use Rattle.chyp_replace.proofs.layout.add_wires.Goals as goal

pub loop-w-preserved : goal.loop-w-preserved
loop-w-preserved c =
    let old = c.args.wires.now.items in
    let sorts = c.args.graph.now.wires in
    let i = c.loop-w.w in
    let sort = c.wire_sort.result.now in
    let n = c.wire_count-count.ensures.count in
    let t = c.loop-w-test.true in
    let h : i < length sorts = omega arith in (
      pushed-item old sorts c.loop-w.wires.items c.push-in-loop-w.new.self.items i sort h (read-item sorts i sort c.wire_sort.ensures) c.loop-w.invariant.0
          (c.in_ok-push-2.ensures.items ∙ ap (λ x. c.loop-w.wires.items ++ x ∷ []) c.in_ok-share.ensures),
      pushed-number (length old) i c.len.result [] c.loop-w.numbers.items c.push.new.self.items
          (c.len.ensures ∙ c.loop-w.wires.ok.0 ∙ length-grown old sorts c.loop-w.wires.items i (omega arith) c.loop-w.invariant.0)
          c.loop-w.invariant.1 c.in_ok-push.ensures.items,
    )
