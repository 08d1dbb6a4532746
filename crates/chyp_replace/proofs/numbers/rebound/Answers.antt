use Rattle.std.proofs.Common.{◌<◌, ◌∙◌, ap₂, arith, length, slice_set}
use Rattle.chyp_term.proofs.Slices.{index-is}
use Rattle.chyp_replace.proofs.Rebinding.{rebound-more}
use Rattle.chyp_replace.proofs.numbers.rebound.Goals as goal

pub loop-i-preserved : goal.loop-i-preserved
loop-i-preserved c =
    let wires = c.args.wires.now in
    let ends = c.args.ends.now in
    let i = c.loop-i.i in
    let same = c.requires.same in
    let h = c.loop-i-test.true in
    let below : i < length ends = omega arith in
    rebound-more wires ends c.args.numbers.now c.loop-i.after.items _ i h (c.requires.within i 0 h) c.requires.apart c.loop-i.invariant
    (ap₂ (λ w x. slice_set c.loop-i.after.items w x) (c.wire.view_is ∙ index-is wires i c.index-wires-i.result h c.index-wires-i.is)
    (index-is ends i c.index-ends-i.result below c.index-ends-i.is))
