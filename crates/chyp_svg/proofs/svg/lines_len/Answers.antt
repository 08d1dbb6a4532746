use Rattle.std.proofs.Common.{arith}
use Rattle.chyp_svg.specs.Drawing.{path_text}
use Rattle.chyp_svg.proofs.svg.lines_len.Goals as goal
use Rattle.chyp_write.proofs.WritingLemmas.{parts-length}

pub loop-line-preserved : goal.loop-line-preserved
loop-line-preserved c =
    let i = c.loop-line.invariant in
    record {
      counted = parts-length (path_text c.args.picture.now) c.loop-line.line-index c.args.lines.now c.line-item.result c.loop-line-test.true c.line-item.is
          c.loop-line.length c.path_len-length.result i.counted c.path_len-length.ensures.same;
      few = omega (arith, i.few, c.path_len-length.ensures.few);
    }
