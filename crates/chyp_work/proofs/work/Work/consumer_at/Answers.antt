use Rattle.std.proofs.Common.{refl, ◌≡◌, Some}
use Rattle.chyp_term.proofs.Members.{get-member}
use Rattle.chyp_term.proofs.Members.{member-Contains}
use Rattle.chyp_work.specs.Board.{net}
use Rattle.chyp_store.specs.Items.{item_at}
use Rattle.chyp_work.specs.declared.board.WireItem.{WireItem}
use Rattle.chyp_work.proofs.Nets.{item-map, source-no-output, there-result}
use Rattle.chyp_work.proofs.work.Work.consumer_at.Goals as goal

pub unwrap-item-requires : goal.unwrap-item-requires
unwrap-item-requires c = there-result (λ (item : WireItem). item.sort) c.get.result _ c.get.ensures
    (rw (← c.self.view_is, ← c.w.view_is, item-map (λ (item : WireItem). item.sort) c.w.inside.0 c.self.inside.board.wires.items) at c.requires)

pub returns-in-Outside-clause-output : goal.returns-in-Outside-clause-output
returns-in-Outside-clause-output c =
    let e : item_at c.w.inside.0 c.self.inside.board.wires.items ≡ Some c.unwrap-item.result.now = rw (← c.get.ensures, c.unwrap-item.ensures) refl in
    let x = rw c.in-Outside.is at (c.self.invariant.ends c.w.inside.0 c.unwrap-item.result.now e).1 in
    rw (← c.self.view_is, ← c.w.view_is) (λ _. member-Contains _ _ (get-member _ _ _ x), λ _. refl)

pub returns-in-Port-clause-output : goal.returns-in-Port-clause-output
returns-in-Port-clause-output c =
    let e : item_at c.w.inside.0 c.self.inside.board.wires.items ≡ Some c.unwrap-item.result.now = rw (← c.get.ensures, c.unwrap-item.ensures) refl in
    let x = rw c.in-Port.is at (c.self.invariant.ends c.w.inside.0 c.unwrap-item.result.now e).1 in
    rw (← c.self.view_is, ← c.w.view_is) (λ h. absurd (cc), λ h. absurd (source-no-output (net c.self.inside.board) c.self.invariant.sound _ _ _ x h))
