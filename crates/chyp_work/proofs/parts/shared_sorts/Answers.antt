use Rattle.chyp_work.proofs.Fillings.{item-taken}
use Rattle.chyp_work.proofs.parts.shared_sorts.Goals as goal

pub loop-w-preserved : goal.loop-w-preserved
loop-w-preserved c = item-taken c.args.graph.now.wires _ _ c.loop-w.w _ _ c.wire_sort.ensures c.in_ok-share.ensures c.loop-w.invariant c.in_ok-push.ensures.items
