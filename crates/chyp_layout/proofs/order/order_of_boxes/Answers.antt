use Rattle.std.proofs.Common.{◌-◌, ◌∙◌, ap, arith, replicate, slice_index, []}
use Rattle.chyp_term.proofs.Closure.{get-item}
use Rattle.chyp_layout.specs.Columns.{greatest}
use Rattle.chyp_layout.proofs.Ordering.{boxes-more, boxes-none, column-at, length-boxes}
use Rattle.chyp_layout.proofs.order.order_of_boxes.Goals as goal

pub loop-k-init : goal.loop-k-init
loop-k-init c = boxes-none (greatest c.args.columns.now) c.in_ok-order.order.items (c.in_ok-order.ensures ∙ ap (λ n. replicate n []) c.last.ensures.last)

pub index_mut-column-requires : goal.index_mut-column-requires
index_mut-column-requires c =
    let s = c.as_slice-column-items in
    let n = length-boxes _ (greatest c.args.columns.now) c.loop-k.order.items c.loop-k.invariant in
    let l = c.loop-k.order.ok.0 in
    let a = column-at s.result.now c.args.columns.now c.loop-k.k s.ensures.columns c.loop-k-test.true s.ensures.each in
    let low = a.1 in
    let high = a.2 in
    omega arith

pub loop-k-preserved : goal.loop-k-preserved
loop-k-preserved c =
    let s = c.as_slice-column-items in
    let l = c.loop-k in
    let n = length-boxes _ (greatest c.args.columns.now) l.order.items l.invariant in
    let a = column-at s.result.now c.args.columns.now l.k s.ensures.columns c.loop-k-test.true s.ensures.each in
    let low = a.1 in
    let high = a.2 in
    boxes-more c.args.columns.now (greatest c.args.columns.now) l.k (slice_index s.result.now l.k) l.order.items c.index_mut-column.result.now c.push.new.self a.0 low high l.invariant
    (get-item l.order.items (slice_index s.result.now l.k - 1) c.index_mut-column.result.now (omega arith) c.index_mut-column.ensures.value) c.in_ok-push.ensures
