use Rattle.std.proofs.Common.{◌≡◌, take}
use Rattle.chyp_layout.specs.Order.{first_order}
use Rattle.chyp_layout.proofs.order.first_order.Given as goal

abbrev pub invariant-loop-w : goal.invariant-loop-w
invariant-loop-w l = l.order.items ≡ first_order l.columns (take l.w l.ends)
