use Rattle.std.proofs.Common.{refl, sym, ◌≡◌, ap, Some}
use Rattle.std.specs.Prelude.{option_map}
use Rattle.slab.specs.Slab.{get}
use Rattle.chyp_store.proofs.Listings.{same_lent}
use Rattle.chyp_store.proofs.Stores.{changed-kept, changed-listed, changed-room, item-is}
use Rattle.chyp_store.proofs.store.Store.get_mut.Goals as goal

pub invariant_of-self-lent : goal.invariant_of-self-lent
invariant_of-self-lent g c =
    let there : get c.self.inside.slots c.args.k ≡ Some c.in-Some.slot.now = sym c.in-Some.ensures.value in
    λ w. (changed-kept _ _ _ c.self.invariant.0 _ _ there w, changed-room _ _ _ c.self.invariant.0 _ _ there w _ _ _ c.self.invariant.1)

pub returns-in-Some : goal.returns-in-Some
returns-in-Some g c =
    let there : get c.self.inside.slots c.args.k ≡ Some c.in-Some.slot.now = sym c.in-Some.ensures.value in
    rw (← c.self.view_is) (
      same_lent _ _ _ (λ w. ap (λ l. record { items = l; room = c.self.inside.room; bound = c.self.inside.bound }) (changed-listed _ _ _ c.self.invariant.0 _ _ there w)),
      record { writes_back = tt; value = rw (item-is _ _ _ c.self.invariant.0 c.args.k, there) refl },
    )

pub returns-in-None : goal.returns-in-None
returns-in-None g c = rw (← c.self.view_is) (refl, record { writes_back = tt; value = rw (item-is _ _ _ c.self.invariant.0 c.args.k) (ap (option_map (λ s. s.item)) c.in-None.ensures.value) })
