-- One more place of the order takes one more sort.
use Rattle.chyp_term.proofs.Closure.{get-item, permuted-more}
use Rattle.chyp_term.proofs.shape.sorts_at.Goals as goal

pub loop-place-preserved : goal.loop-place-preserved
loop-place-preserved c =
    let within = c.requires _ c.loop-place-test.true in
    let sort = c.index-sorts-place in
    permuted-more c.args.sorts.now c.args.order.now _ _ _ _ _ c.loop-place-test.true (get-item _ _ _ within sort.is) c.in_ok-share.ensures c.loop-place.invariant c.in_ok-push.ensures.items
