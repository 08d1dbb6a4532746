use Rattle.chyp_store.proofs.Apart.{listed-apart}
use Rattle.chyp_store.proofs.store.Store.apart.Goals as goal

pub returns : goal.returns
returns g c = rw (← c.self.view_is) (listed-apart _ _ _ c.self.invariant.0)
