use Rattle.std.proofs.Common.{◌<◌, ◌∙◌, All, ap, ap₂, length, map, subst, sym}
use Rattle.std.specs.List.{range_with_len}
use Rattle.chyp_layout.specs.Spots.{IsBoxBelow, IsWireBelow, bends_on, box_spot, placed_from}
use Rattle.chyp_layout.proofs.Drawing.{picture-drawn, spots-low}
use Rattle.chyp_layout.proofs.Placing.{length-table, placed-boxes, placed-wires}
use Rattle.chyp_layout.proofs.picture.picture_in.Goals as goal

pub box_spots-requires : goal.box_spots-requires
box_spots-requires c =
    let g = c.args.graph.now in
    let b = c.is_bounded.ensures in
    subst (λ n. All (λ p. IsBoxBelow n p.item) c.deref.result.now) (sym c.edge_count.ensures.count)
    (subst (All (λ p. IsBoxBelow (length g.edges) p.item)) (sym (c.deref.ensures.value ∙ c.in_ok-placed.ensures)) (placed-boxes g b.valid b.few_wires c.args.order.now c.requires.order))

pub trails-requires : goal.trails-requires
trails-requires c =
    let g = c.args.graph.now in
    let b = c.is_bounded.ensures in
    subst (λ n. All (λ p. IsWireBelow n p.item × (p.spot.top < 9223372036854775808)) c.deref-2.result.now) (sym c.wire_count.ensures.count)
    (subst (All (λ p. IsWireBelow (length g.wires) p.item × (p.spot.top < 9223372036854775808))) (sym (c.deref-2.ensures.value
    ∙ c.in_ok-placed.ensures)) (placed-wires g b.valid b.few_wires c.args.order.now c.requires.order))

pub boxes-requires : goal.boxes-requires
boxes-requires c = length-table (box_spot c.deref.result.now) (length c.args.graph.now.edges) c.deref-3.result.now (c.deref-3.ensures.value ∙ c.in_ok-spots.ensures
    ∙ ap (λ n. map (box_spot c.deref.result.now) (range_with_len 0 n)) c.edge_count.ensures.count)

pub lines-requires-clause-bends : goal.lines-requires-clause-bends
lines-requires-clause-bends c = length-table (bends_on c.deref-2.result.now) (length c.args.graph.now.wires) c.deref-4.result.now (c.deref-4.ensures.value ∙ c.in_ok-bends.ensures
    ∙ ap (λ n. map (bends_on c.deref-2.result.now) (range_with_len 0 n)) c.wire_count.ensures.count)

pub lines-requires-clause-spots : goal.lines-requires-clause-spots
lines-requires-clause-spots c = length-table (box_spot c.deref.result.now) (length c.args.graph.now.edges) c.deref-5.result.now (c.deref-5.ensures.value ∙ c.in_ok-spots.ensures
    ∙ ap (λ n. map (box_spot c.deref.result.now) (range_with_len 0 n)) c.edge_count.ensures.count)

pub lines-requires-clause-low : goal.lines-requires-clause-low
lines-requires-clause-low c =
    let g = c.args.graph.now in
    let b = c.is_bounded.ensures in
    spots-low g b.valid b.few_wires c.args.order.now c.requires.order c.deref-5.result.now c.edge_count.result (c.deref-5.ensures.value ∙ c.in_ok-spots.ensures
    ∙ ap (λ l. map (box_spot l) (range_with_len 0 c.edge_count.result)) (c.deref.ensures.value ∙ c.in_ok-placed.ensures))

pub returns : goal.returns
returns c =
    let g = c.args.graph.now in
    let placed = placed_from g 1 c.args.order.now in
    let s = c.in_ok-spots.ensures ∙ ap₂ (λ l n. map (box_spot l) (range_with_len 0 n)) (c.deref.ensures.value ∙ c.in_ok-placed.ensures) c.edge_count.ensures.count in
    let b = c.in_ok-bends.ensures ∙ ap₂ (λ l n. map (bends_on l) (range_with_len 0 n)) (c.deref-2.ensures.value ∙ c.in_ok-placed.ensures) c.wire_count.ensures.count in
    picture-drawn g c.args.order.now c.from.result c.picture_height.result c.from_vec.result c.from_vec-2.result c.inputs.result.now c.outputs.result.now c.from.ensures c.picture_height.ensures
    (c.from_vec.ensures ∙ c.in_ok-boxes.ensures placed (c.deref-3.ensures.value ∙ s)) (c.from_vec-2.ensures ∙ c.in_ok-lines.ensures placed (c.deref-5.ensures.value
    ∙ s) (c.deref-4.ensures.value ∙ b)) c.inputs.ensures.inputs c.outputs.ensures.outputs
