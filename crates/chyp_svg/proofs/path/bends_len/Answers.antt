use Rattle.std.proofs.Common.{arith}
use Rattle.chyp_picture.specs.declared.point.Point.{Point}
use Rattle.chyp_svg.proofs.Curves.{curves-length, last-next}
use Rattle.chyp_svg.proofs.path.bends_len.Goals as goal

abbrev nowhere : Point
nowhere = record { column = 0; place = 0; y = 0 }

pub loop-point-preserved : goal.loop-point-preserved
loop-point-preserved c =
    let i = c.loop-point.invariant in
    record {
      counted = curves-length c.args.from c.args.bends.now c.loop-point.point-index nowhere c.loop-point-test.true c.loop-point.last c.bend-next.result i.reached c.bend-next.ensures.same
          c.loop-point.length c.curve_len-length.result i.counted c.curve_len-length.ensures.same;
      few = omega (arith, i.few, c.curve_len-length.ensures.few);
      reached = last-next c.args.from c.args.bends.now c.loop-point.point-index nowhere c.loop-point-test.true c.bend-next.result c.bend-next.ensures.same;
      low = c.bend-next.ensures.low;
    }
