use Rattle.std.proofs.Common.{◌++◌, ◌∷◌, [], ◌∙◌, ap₂, sym}
use Rattle.chyp_term.proofs.Closure.{get-item}
use Rattle.chyp_extractor.proofs.Lists.{permuted-next}
use Rattle.chyp_extractor.proofs.layer.sorts_at.Goals as goal

pub loop-w-preserved : goal.loop-w-preserved
loop-w-preserved c =
    let ws = c.args.wires.now in
    let i = c.loop-w.w-index in
    c.in_ok-push.ensures.items ∙ ap₂ (λ l x. l ++ x ∷ []) c.loop-w.invariant c.in_ok-share.ensures
    ∙ sym (permuted-next c.args.graph.now.wires ws i c.w-item.result c.wire_sort.result.now (get-item ws i c.w-item.result c.loop-w-test.true c.w-item.is) c.wire_sort.ensures)
