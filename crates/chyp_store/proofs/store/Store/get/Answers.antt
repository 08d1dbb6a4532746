use Rattle.std.proofs.Common.{refl}
use Rattle.chyp_store.proofs.Stores.{item-is}
use Rattle.chyp_store.proofs.store.Store.get.Goals as goal

pub returns-in-Some : goal.returns-in-Some
returns-in-Some g c = rw (← c.self.view_is, item-is _ _ _ c.self.invariant.0 c.args.k, ← c.get.ensures, c.in-Some.is) refl

pub returns-in-None : goal.returns-in-None
returns-in-None g c = rw (← c.self.view_is, item-is _ _ _ c.self.invariant.0 c.args.k, ← c.get.ensures, c.in-None.is) refl
