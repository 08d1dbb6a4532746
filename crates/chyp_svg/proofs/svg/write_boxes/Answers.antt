use Rattle.std.proofs.Common.{subst, ◌∙◌}
use Rattle.std.specs.Io.KnownBytes.{Appends}
use Rattle.chyp_base.proofs.KnownBytes.{Appends-more}
use Rattle.chyp_svg.specs.Drawing.{box_text}
use Rattle.chyp_svg.proofs.svg.write_boxes.Goals as goal
use Rattle.chyp_write.proofs.WritingLemmas.{parts-more, parts-turn, writes-cut}

pub returns-in_err-write_box : goal.returns-in_err-write_box
returns-in_err-write_box g c =
    let i = c.loop-part.invariant in
    writes-cut _ _ _ _ _ _ _ c.from_residual.result _ _ _ _ i.written i.kept c.from_residual.ensures.0 c.in_err-write_box.ensures
    (parts-turn box_text c.loop-part.part-index c.args.boxes.now c.part-item.result c.loop-part-test.true c.part-item.is)

pub loop-part-preserved : goal.loop-part-preserved
loop-part-preserved g c =
    let i = c.loop-part.invariant in
    record {
      written = subst (Appends _ _) (parts-more box_text c.loop-part.part-index c.args.boxes.now c.part-item.result c.loop-part-test.true c.part-item.is)
          (Appends-more _ _ _ _ _ i.written c.in_ok-write_box.ensures.whole);
      kept = c.in_ok-write_box.ensures.kept ∙ i.kept;
    }
