use Rattle.std.proofs.Common.{refl}
use Rattle.chyp_work.specs.declared.board.WireItem.{WireItem}
use Rattle.chyp_work.proofs.Nets.{item-map, there-result}
use Rattle.chyp_work.proofs.work.Work.sort_at.Goals as goal

pub unwrap-item-requires : goal.unwrap-item-requires
unwrap-item-requires c = there-result (λ (item : WireItem). item.sort) c.get.result _ c.get.ensures
    (rw (← c.self.view_is, ← c.w.view_is, item-map (λ (item : WireItem). item.sort) c.w.inside.0 c.self.inside.board.wires.items) at c.requires)

pub returns : goal.returns
returns c = rw (← c.self.view_is, ← c.w.view_is, item-map (λ (item : WireItem). item.sort) c.w.inside.0 c.self.inside.board.wires.items, ← c.get.ensures, c.unwrap-item.ensures) refl
