use Rattle.std.proofs.Common.{ap, flat_map, subst, ◌∙◌}
use Rattle.std.specs.Io.KnownBytes.{Appends}
use Rattle.chyp_base.proofs.KnownBytes.{Appends-more}
use Rattle.chyp_svg.specs.Drawing.{path_text}
use Rattle.chyp_svg.proofs.svg.write_lines.Goals as goal
use Rattle.chyp_write.specs.Writing.{Writes}
use Rattle.chyp_write.proofs.WritingLemmas.{parts-more, parts-turn, writes-cut}

pub returns-in_err-write_path : goal.returns-in_err-write_path
returns-in_err-write_path g c =
    let i = c.loop-line.invariant in
    subst (Writes _ _ _ _ c.from_residual.result) (ap (flat_map (path_text c.args.picture.now)) c.as_slice-lines.ensures)
    (writes-cut _ _ _ _ _ _ _ c.from_residual.result _ _ _ _ i.written i.kept c.from_residual.ensures.0 c.in_err-write_path.ensures
    (parts-turn (path_text c.args.picture.now) c.loop-line.line-index c.as_slice-lines.result.now c.line-item.result c.loop-line-test.true c.line-item.is))

pub loop-line-preserved : goal.loop-line-preserved
loop-line-preserved g c =
    let i = c.loop-line.invariant in
    record {
      written = subst (Appends _ _) (parts-more (path_text c.args.picture.now) c.loop-line.line-index c.as_slice-lines.result.now c.line-item.result c.loop-line-test.true c.line-item.is)
          (Appends-more _ _ _ _ _ i.written c.in_ok-write_path.ensures.whole);
      kept = c.in_ok-write_path.ensures.kept ∙ i.kept;
    }
