use Rattle.std.proofs.Common.{subst}
use Rattle.chyp_svg.proofs.Frames.{drawing-parts}
use Rattle.chyp_svg.proofs.svg.write_svg.Goals as goal
use Rattle.chyp_write.specs.Writing.{Writes}
use Rattle.chyp_write.proofs.WritingLemmas.{writes-more, writes-part}

pub returns-in_err-write_head : goal.returns-in_err-write_head
returns-in_err-write_head g c = writes-part _ _ _ _ _ c.from_residual.result _ _ c.from_residual.ensures.0 c.in_err-write_head.ensures

pub returns-in_err-write_lines : goal.returns-in_err-write_lines
returns-in_err-write_lines g c =
    writes-more _ _ _ _ _ _ _ c.from_residual-in_err-write_lines.result _ _ c.in_ok-write_head.ensures
    (writes-part _ _ _ _ _ c.from_residual-in_err-write_lines.result _ _ c.from_residual-in_err-write_lines.ensures.0 c.in_err-write_lines.ensures)

pub returns-in_err-write_boxes : goal.returns-in_err-write_boxes
returns-in_err-write_boxes g c =
    subst (Writes _ _ _ _ c.from_residual-in_err-write_boxes.result) (drawing-parts c.args.picture.now c.as_slice.result.now c.as_slice.ensures)
    (writes-more _ _ _ _ _ _ _ c.from_residual-in_err-write_boxes.result _ _ c.in_ok-write_head.ensures
    (writes-more _ _ _ _ _ _ _ c.from_residual-in_err-write_boxes.result _ _ c.in_ok-write_lines.ensures
    (writes-part _ _ _ _ _ c.from_residual-in_err-write_boxes.result _ _ c.from_residual-in_err-write_boxes.ensures.0 c.in_err-write_boxes.ensures)))

pub returns : goal.returns
returns g c =
    subst (Writes _ _ _ _ c.write_all.result) (drawing-parts c.args.picture.now c.as_slice.result.now c.as_slice.ensures)
    (writes-more _ _ _ _ _ _ _ c.write_all.result _ _ c.in_ok-write_head.ensures
    (writes-more _ _ _ _ _ _ _ c.write_all.result _ _ c.in_ok-write_lines.ensures
    (writes-more _ _ _ _ _ _ _ c.write_all.result _ _ c.in_ok-write_boxes.ensures c.write_all.ensures)))
