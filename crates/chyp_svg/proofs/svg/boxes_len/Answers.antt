use Rattle.std.proofs.Common.{arith}
use Rattle.chyp_svg.specs.Drawing.{box_text}
use Rattle.chyp_svg.proofs.svg.boxes_len.Goals as goal
use Rattle.chyp_write.proofs.WritingLemmas.{parts-length}

pub loop-part-preserved : goal.loop-part-preserved
loop-part-preserved c =
    let i = c.loop-part.invariant in
    record {
      counted = parts-length box_text c.loop-part.part-index c.args.boxes.now c.part-item.result c.loop-part-test.true c.part-item.is
          c.loop-part.length c.box_len-length.result i.counted c.box_len-length.ensures.same;
      few = omega (arith, i.few, c.box_len-length.ensures.few);
    }
