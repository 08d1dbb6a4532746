use Rattle.std.proofs.Common.{subst}
use Rattle.chyp_svg.proofs.Frames.{head-parts}
use Rattle.chyp_svg.proofs.svg.write_head.Goals as goal
use Rattle.chyp_write.specs.Writing.{Writes}

pub returns : goal.returns
returns g c =
    subst (Writes _ _ _ _ c.write_all.result)
    (head-parts c.args.picture.now c.format-width.result.now c.format-height.result.now c.format-width.ensures.text c.format-height.ensures.text) c.write_all.ensures
