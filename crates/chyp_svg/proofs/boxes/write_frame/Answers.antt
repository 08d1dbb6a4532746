use Rattle.std.proofs.Common.{◌-◌, ap, decimal, subst, ◌∙◌}
use Rattle.chyp_svg.proofs.Frames.{frame-parts}
use Rattle.chyp_svg.proofs.boxes.write_frame.Goals as goal
use Rattle.chyp_write.specs.Writing.{Writes}

pub returns : goal.returns
returns g c =
    subst (Writes _ _ _ _ c.write_all.result)
    (frame-parts c.args.part.now c.format-side.result.now c.format-top.result.now c.format-height.result.now (c.format-side.ensures.text ∙ ap (λ n. decimal (n - 20)) c.middle.ensures)
    c.format-top.ensures.text c.format-height.ensures.text) c.write_all.ensures
