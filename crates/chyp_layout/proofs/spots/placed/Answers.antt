use Rattle.std.proofs.Common.{◌+◌, ◌++◌, ◌∙◌, ap, refl}
use Rattle.chyp_term.proofs.Closure.{get-item}
use Rattle.chyp_layout.specs.Spots.{placed_in}
use Rattle.chyp_layout.proofs.Placing.{columns-more}
use Rattle.chyp_layout.proofs.spots.placed.Goals as goal

pub loop-c-preserved : goal.loop-c-preserved
loop-c-preserved c =
    let g = c.args.graph.now in
    let l = c.loop-c in
    let t = c.index-order-c.result in
    columns-more g c.args.order.now l.c (l.c + 1) t l.placed.items c.place.new.placed.items (get-item c.args.order.now l.c t c.loop-c-test.true c.index-order-c.is) c.loop-c-test.true refl l.invariant
    (c.in_ok-place.ensures ∙ ap (λ k. l.placed.items ++ placed_in g (l.c + 1) 0 20 k) c.as_slice.ensures)
