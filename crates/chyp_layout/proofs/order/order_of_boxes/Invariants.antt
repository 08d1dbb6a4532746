use Rattle.std.proofs.Common.{◌≡◌, map, take}
use Rattle.std.specs.List.{range_with_len}
use Rattle.chyp_layout.specs.Columns.{greatest}
use Rattle.chyp_layout.specs.Order.{boxes_in}
use Rattle.chyp_layout.proofs.order.order_of_boxes.Given as goal

abbrev pub invariant-loop-k : goal.invariant-loop-k
invariant-loop-k l = l.order.items ≡ map (boxes_in (take l.k l.columns)) (range_with_len 1 (greatest l.columns))
