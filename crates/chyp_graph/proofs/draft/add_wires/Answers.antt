use Rattle.std.proofs.Common.{◌∙◌, ◌++◌, ◌∷◌, [], length, ap}
use Rattle.chyp_graph.proofs.Leaves.{pushed-item, pushed-number, length-grown}
use Rattle.chyp_graph.proofs.draft.add_wires.Goals as goal

pub loop-sort-preserved : goal.loop-sort-preserved
loop-sort-preserved c =
    let i = c.loop-sort.sort-index in
    let sort = c.sort-item.result in (
      pushed-item c.args.wires.now.items c.args.sorts.now c.loop-sort.wires.items c.push-in-loop-sort.new.self.items i sort c.loop-sort-test.true c.sort-item.is c.loop-sort.invariant.0
          (c.in_ok-push-2.ensures.items ∙ ap (λ x. c.loop-sort.wires.items ++ x ∷ []) c.in_ok-share.ensures),
      pushed-number (length c.args.wires.now.items) i c.len.result c.args.numbers.now.items c.loop-sort.numbers.items c.push.new.self.items
          (c.len.ensures ∙ c.loop-sort.wires.ok.0 ∙ length-grown c.args.wires.now.items c.args.sorts.now c.loop-sort.wires.items i c.loop-sort.auto.sort-index-end c.loop-sort.invariant.0)
          c.loop-sort.invariant.1 c.in_ok-push.ensures.items,
    )
