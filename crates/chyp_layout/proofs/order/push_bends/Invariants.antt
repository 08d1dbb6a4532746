use Rattle.std.proofs.Common.{◌≤◌, max}
use Rattle.chyp_layout.specs.Order.{AreExtended}
use Rattle.chyp_layout.specs.declared.item.Item.TheVariants.{Wire}
use Rattle.chyp_layout.proofs.order.push_bends.Given as goal

abbrev pub invariant-loop-place : goal.invariant-loop-place
invariant-loop-place l = record {
  low : l.place ≤ max l.from l.to;
  bends : AreExtended (λ _. Wire l.wire) l.from l.place l.initial.order.items l.order.items;
}
