use Rattle.std.proofs.Common.{arith, refl, length, ◌≡◌}
use Rattle.chyp_store.proofs.Stores.{added-kept, added-listed, item-is}
use Rattle.chyp_store.proofs.store.Store.add.Goals as goal

pub invariant_of-self : goal.invariant_of-self
invariant_of-self g c =
    let kept = c.self.invariant.0 in
    let room = c.self.invariant.1 in
    let e = c.insert_reserved-key.ensures in
    let p : c.len-place.result ≡ length c.self.inside.order.items = omega (arith, c.self.inside.order.ok.0) in
    let u = rw p at e.updates in
    (rw c.push_reserved.ensures.items (added-kept _ _ _ kept _ _ _ e.was_vacant u _ (omega arith) (omega arith)), grind arith)

pub returns-clause-items : goal.returns-clause-items
returns-clause-items g c =
    let e = c.insert_reserved-key.ensures in
    let p : c.len-place.result ≡ length c.self.inside.order.items = omega (arith, c.self.inside.order.ok.0) in
    let u = rw p at e.updates in
    rw (c.push_reserved.ensures.items, ← c.self.view_is) (added-listed _ _ _ c.self.invariant.0 _ _ _ e.was_vacant u)

pub returns-clause-fresh : goal.returns-clause-fresh
returns-clause-fresh g c = rw (← c.self.view_is, item-is _ _ _ c.self.invariant.0 c.insert_reserved-key.result, c.insert_reserved-key.ensures.was_vacant) refl
