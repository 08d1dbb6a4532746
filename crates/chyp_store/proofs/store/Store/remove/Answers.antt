use Rattle.std.proofs.Common.{arith, refl, sym, ◌∙◌, ◌≡◌, Some, None}
use Rattle.slab.specs.Slab.{get}
use Rattle.std.proofs.Common.{ap}
use Rattle.std.specs.Prelude.{option_map}
use Rattle.std.proofs.Math.ListN.{length-set}
use Rattle.chyp_store.proofs.Listings.{absent-without}
use Rattle.chyp_store.proofs.Stores.{item-is, removed-kept, removed-listed, removed-place}
use Rattle.chyp_store.proofs.store.Store.remove.Goals as goal

pub index_mut-requires : goal.index_mut-requires
index_mut-requires g c =
    let there : get c.self.inside.slots c.args.k ≡ Some c.in-Some.slot = sym c.in-Some.ensures.value in
    let h = removed-place _ _ _ c.self.invariant.0 c.try_remove.new.self c.args.k _ there c.try_remove.ensures.updates in
    omega (arith, h, c.self.inside.order.ok.0)

pub invariant_of-self : goal.invariant_of-self
invariant_of-self g c =
    let there : get c.self.inside.slots c.args.k ≡ Some c.in-Some.slot = sym c.in-Some.ensures.value in (
      removed-kept _ _ _ c.self.invariant.0 _ _ _ there c.try_remove.ensures.updates,
      record {
        in_slots = omega (arith, c.self.invariant.1, c.in-Some.ensures.len, c.try_remove.ensures.capacity);
        in_order = rw (length-set c.self.inside.order.items c.in-Some.slot.place None) c.self.invariant.1.in_order;
        small = rw c.try_remove.ensures.capacity c.self.invariant.1.small;
      },
    )

pub returns-in-Some-clause-item : goal.returns-in-Some-clause-item
returns-in-Some-clause-item g c =
    let there : get c.self.inside.slots c.args.k ≡ Some c.in-Some.slot = sym c.in-Some.ensures.value in
    rw (← c.self.view_is, item-is _ _ _ c.self.invariant.0 c.args.k, there) refl

pub returns-in-Some-clause-items : goal.returns-in-Some-clause-items
returns-in-Some-clause-items g c =
    let there : get c.self.inside.slots c.args.k ≡ Some c.in-Some.slot = sym c.in-Some.ensures.value in
    rw (← c.self.view_is) (removed-listed _ _ _ c.self.invariant.0 _ _ _ there c.try_remove.ensures.updates)

pub returns-in-None-clause-item : goal.returns-in-None-clause-item
returns-in-None-clause-item g c = rw (← c.self.view_is, item-is _ _ _ c.self.invariant.0 c.args.k) (ap (option_map (λ s. s.item)) c.in-None.ensures.value)

pub returns-in-None-clause-items : goal.returns-in-None-clause-items
returns-in-None-clause-items g c = rw (c.in-None.ensures.absent, ← c.self.view_is)
    (sym (absent-without c.args.k _ (item-is _ _ _ c.self.invariant.0 c.args.k ∙ ap (option_map (λ s. s.item)) (sym c.in-None.ensures.value))))
