-- One more number is appended.
use Rattle.chyp_term.proofs.Counting.{count_from-more}
use Rattle.chyp_term.proofs.perm.push_range.Goals as goal

pub loop-place-preserved : goal.loop-place-preserved
loop-place-preserved c = count_from-more c.args.places.now.items _ _ c.args.start c.loop-place.place c.loop-place.auto.place c.loop-place.invariant c.in_ok-push.ensures.items
