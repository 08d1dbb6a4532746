use Rattle.std.proofs.Common.{ap, subst, ◌∙◌}
use Rattle.chyp_svg.specs.Drawing.{label_of}
use Rattle.chyp_svg.proofs.Frames.{box-parts}
use Rattle.chyp_svg.proofs.boxes.write_box.Goals as goal
use Rattle.chyp_write.specs.Writing.{Writes}
use Rattle.chyp_write.proofs.WritingLemmas.{writes-more, writes-part}

pub returns-in_err-write_frame : goal.returns-in_err-write_frame
returns-in_err-write_frame g c = writes-part _ _ _ _ _ c.from_residual.result _ _ c.from_residual.ensures.0 c.in_err-write_frame.ensures

pub returns-in_err-write_caption : goal.returns-in_err-write_caption
returns-in_err-write_caption g c =
    writes-more _ _ _ _ _ _ _ c.from_residual-in_err-write_caption.result _ _ c.in_ok-write_frame.ensures
    (writes-part _ _ _ _ _ c.from_residual-in_err-write_caption.result _ _ c.from_residual-in_err-write_caption.ensures.0 c.in_err-write_caption.ensures)

pub returns-in_err-write_escaped : goal.returns-in_err-write_escaped
returns-in_err-write_escaped g c =
    subst (Writes _ _ _ _ c.from_residual-in_err-write_escaped.result)
    (box-parts c.args.part.now c.label.result.now (c.label.ensures ∙ ap label_of (c.as_bytes.ensures.value ∙ c.as_str.ensures)))
    (writes-more _ _ _ _ _ _ _ c.from_residual-in_err-write_escaped.result _ _ c.in_ok-write_frame.ensures
    (writes-more _ _ _ _ _ _ _ c.from_residual-in_err-write_escaped.result _ _ c.in_ok-write_caption.ensures
    (writes-part _ _ _ _ _ c.from_residual-in_err-write_escaped.result _ _ c.from_residual-in_err-write_escaped.ensures.0 c.in_err-write_escaped.ensures)))

pub returns : goal.returns
returns g c =
    subst (Writes _ _ _ _ c.write_all.result)
    (box-parts c.args.part.now c.label.result.now (c.label.ensures ∙ ap label_of (c.as_bytes.ensures.value ∙ c.as_str.ensures)))
    (writes-more _ _ _ _ _ _ _ c.write_all.result _ _ c.in_ok-write_frame.ensures
    (writes-more _ _ _ _ _ _ _ c.write_all.result _ _ c.in_ok-write_caption.ensures
    (writes-more _ _ _ _ _ _ _ c.write_all.result _ _ c.in_ok-write_escaped.ensures c.write_all.ensures)))
