use Rattle.std.proofs.Common.{◌∙◌, All, ap, arith, length, subst, sym}
use Rattle.chyp_picture.specs.declared.picture.Picture.{Picture}
use Rattle.chyp_picture.specs.Crossings.{HasBoxes}
use Rattle.chyp_layout.proofs.Best.{boxes-there, lines-few}
use Rattle.chyp_layout.proofs.layering.drawn.Goals as goal

pub crossings-requires-clause-ends : goal.crossings-requires-clause-ends
crossings-requires-clause-ends c = subst (λ (p : Picture). All (HasBoxes p) p.lines) (sym c.in_ok-picture.ensures) (boxes-there c.args.graph.now c.args.order.now)

pub crossings-requires-clause-few_lines : goal.crossings-requires-clause-few_lines
crossings-requires-clause-few_lines c =
    let n = ap (λ (p : Picture). length p.lines) c.in_ok-picture.ensures ∙ lines-few c.args.graph.now c.args.order.now in
    let f = c.is_bounded.ensures.few_wires in
    omega arith
