use Rattle.chyp_store.proofs.Stores.{listed-below}
use Rattle.chyp_store.proofs.store.Store.bound.Goals as goal

pub returns-clause-above : goal.returns-clause-above
returns-clause-above g c = rw (← c.self.view_is) (listed-below _ _ _ c.self.invariant.0)
