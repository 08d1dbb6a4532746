use Rattle.std.proofs.Common.{◌<◌, ◌≤◌, ◌∙◌, All, ap, ap₂, arith, length, subst, sym}
use Rattle.std.proofs.lemmas.List.{length-map}
use Rattle.chyp_layout.specs.Columns.{column_along, greatest, point_count}
use Rattle.chyp_layout.specs.Ends.{IsEnd}
use Rattle.chyp_layout.specs.Order.{first_order}
use Rattle.chyp_layout.specs.PictureOf.{best_after, four_sweeps}
use Rattle.chyp_layout.specs.Side.{AreItems}
use Rattle.chyp_layout.proofs.Best.{first-items}
use Rattle.chyp_layout.proofs.Drawing.{ends-are, ends-length}
use Rattle.chyp_layout.proofs.Ordering.{length-first}
use Rattle.chyp_layout.proofs.layering.layout.Goals as goal

pub point_count-points-requires-clause-ends : goal.point_count-points-requires-clause-ends
point_count-points-requires-clause-ends c =
    let g = c.args.graph.now in
    let n = ap length c.in_ok-columns.ensures.columns ∙ length-map g.edges (column_along g (length g.edges)) in
    subst (All (λ x. IsEnd (length c.in_ok-columns.columns) x.from × IsEnd (length c.in_ok-columns.columns) x.to)) (sym (c.deref.ensures.value
    ∙ c.in_ok-ends.ensures)) (ends-are g (length c.in_ok-columns.columns) n)

pub point_count-points-requires-clause-few : goal.point_count-points-requires-clause-few
point_count-points-requires-clause-few c =
    let w = ends-length c.args.graph.now c.deref.result.now (c.deref.ensures.value ∙ c.in_ok-ends.ensures) in
    let f = c.is_bounded.ensures.few_wires in
    omega arith

pub first_order-requires-clause-ends : goal.first_order-requires-clause-ends
first_order-requires-clause-ends c =
    let g = c.args.graph.now in
    let n = ap length c.in_ok-columns.ensures.columns ∙ length-map g.edges (column_along g (length g.edges)) in
    subst (All (λ x. IsEnd (length c.in_ok-columns.columns) x.from × IsEnd (length c.in_ok-columns.columns) x.to)) (sym (c.deref-2.ensures.value
    ∙ c.in_ok-ends.ensures)) (ends-are g (length c.in_ok-columns.columns) n)

pub first_order-requires-clause-few : goal.first_order-requires-clause-few
first_order-requires-clause-few c =
    let w = ends-length c.args.graph.now c.deref-2.result.now (c.deref-2.ensures.value ∙ c.in_ok-ends.ensures) in
    let f = c.is_bounded.ensures.few_wires in
    omega arith

pub best-requires-clause-order : goal.best-requires-clause-order
best-requires-clause-order c =
    let g = c.args.graph.now in
    let n = ap length c.in_ok-columns.ensures.columns ∙ length-map g.edges (column_along g (length g.edges)) in
    let w = ends-length g c.deref-2.result.now (c.deref-2.ensures.value ∙ c.in_ok-ends.ensures) in
    let f = c.if-points-gt-MOST_POINTS.false in
    let p : point_count c.in_ok-columns.columns c.deref.result.now ≤ 65536 = (let q = c.point_count-points.ensures in omega arith) in
    subst (All (AreItems g)) (sym c.in_ok-order.ensures)
    (first-items g c.in_ok-columns.columns c.deref-2.result.now n w (subst (λ l. point_count c.in_ok-columns.columns l ≤ 65536) (c.deref.ensures.value ∙ sym c.deref-2.ensures.value) p))

pub best-requires-clause-few : goal.best-requires-clause-few
best-requires-clause-few c =
    let n = ap length c.in_ok-order.ensures ∙ length-first c.in_ok-columns.columns c.deref-2.result.now in
    let f : greatest c.in_ok-columns.columns < 2147483648 = c.in_ok-columns.ensures.low in
    omega arith

pub returns-clause-picture : goal.returns-clause-picture
returns-clause-picture c =
    let g = c.args.graph.now in
    c.in_ok-best.ensures ∙ ap (best_after g four_sweeps) (c.in_ok-order.ensures ∙ ap₂ first_order c.in_ok-columns.ensures.columns (c.deref-2.ensures.value ∙ c.in_ok-ends.ensures))
