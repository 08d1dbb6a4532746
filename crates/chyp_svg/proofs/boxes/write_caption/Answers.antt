use Rattle.std.proofs.Common.{ap, decimal, subst, ◌∙◌}
use Rattle.chyp_svg.proofs.Frames.{caption-parts}
use Rattle.chyp_svg.proofs.boxes.write_caption.Goals as goal
use Rattle.chyp_write.specs.Writing.{Writes}

pub returns : goal.returns
returns g c =
    subst (Writes _ _ _ _ c.write_all.result)
    (caption-parts c.args.part.now c.format-middle.result.now c.format-base.result.now (c.format-middle.ensures.text ∙ ap decimal c.middle.ensures)
    (c.format-base.ensures.text ∙ ap decimal c.base.ensures)) c.write_all.ensures
