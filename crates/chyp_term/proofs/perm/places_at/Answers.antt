-- One more place of the order takes one more item.
use Rattle.std.proofs.Common.{refl}
use Rattle.chyp_term.proofs.Closure.{get-index, permuted-more}
use Rattle.chyp_term.proofs.perm.places_at.Goals as goal

pub loop-place-preserved : goal.loop-place-preserved
loop-place-preserved c =
    let within = c.requires _ c.loop-place-test.true in
    permuted-more c.args.places.now c.args.order.now _ _ _ _ _ c.loop-place-test.true (get-index _ _ within) refl c.loop-place.invariant c.in_ok-push.ensures.items
