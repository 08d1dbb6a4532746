use Rattle.std.proofs.Common.{subst, ◌∙◌}
use Rattle.std.specs.Io.KnownBytes.{Appends}
use Rattle.chyp_base.proofs.KnownBytes.{Appends-more}
use Rattle.chyp_picture.specs.declared.point.Point.{Point}
use Rattle.chyp_svg.proofs.Curves.{curves-next, curves-turn, last-next}
use Rattle.chyp_svg.proofs.path.write_bends.Goals as goal
use Rattle.chyp_write.proofs.WritingLemmas.{writes-cut}

abbrev nowhere : Point
nowhere = record { column = 0; place = 0; y = 0 }

pub returns-in_err-write_curve-clause-text : goal.returns-in_err-write_curve-clause-text
returns-in_err-write_curve-clause-text g c =
    let i = c.loop-point.invariant in
    writes-cut _ _ _ _ _ _ _ c.from_residual.result _ _ _ _ i.written i.kept c.from_residual.ensures.0 c.in_err-write_curve.ensures
    (curves-turn c.args.from c.args.bends.now c.loop-point.point-index nowhere c.loop-point-test.true c.loop-point.last c.bend-next.result i.reached c.bend-next.ensures.same)

pub loop-point-preserved : goal.loop-point-preserved
loop-point-preserved g c =
    let i = c.loop-point.invariant in
    record {
      written = subst (Appends _ _)
          (curves-next c.args.from c.args.bends.now c.loop-point.point-index nowhere c.loop-point-test.true c.loop-point.last c.bend-next.result i.reached c.bend-next.ensures.same)
          (Appends-more _ _ _ _ _ i.written c.in_ok-write_curve.ensures.whole);
      kept = c.in_ok-write_curve.ensures.kept ∙ i.kept;
      reached = last-next c.args.from c.args.bends.now c.loop-point.point-index nowhere c.loop-point-test.true c.bend-next.result c.bend-next.ensures.same;
      low = c.bend-next.ensures.low;
    }
