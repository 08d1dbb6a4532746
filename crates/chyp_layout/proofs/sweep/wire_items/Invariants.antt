use Rattle.std.proofs.Common.{◌≡◌, map, take}
use Rattle.chyp_layout.specs.declared.item.Item.TheVariants.{Wire}
use Rattle.chyp_layout.proofs.sweep.wire_items.Given as goal

abbrev pub invariant-loop-w : goal.invariant-loop-w
invariant-loop-w l = l.column ≡ map Wire (take l.w-index l.wires)
