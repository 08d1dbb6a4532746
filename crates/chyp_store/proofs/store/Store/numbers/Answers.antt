use Rattle.chyp_store.proofs.Stores.{listed-numbers}
use Rattle.chyp_store.proofs.store.Store.numbers.Goals as goal

pub returns : goal.returns
returns g c = rw (← c.self.view_is, listed-numbers _ _ _ c.self.invariant.0, ← c.deref.ensures.value) c.numbers_in.ensures
