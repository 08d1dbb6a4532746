use Rattle.chyp_store.proofs.Listings.{entries-more}
use Rattle.chyp_store.proofs.store.numbers_in.Goals as goal

pub loop-entry-preserved : goal.loop-entry-preserved
loop-entry-preserved c = entries-more _ _ _ _ _ c.loop-entry-test.true c.in_ok-push_some.ensures c.loop-entry.invariant
