use Rattle.chyp_extractor.proofs.Places.{counts-more, counts-stop}
use Rattle.chyp_extractor.proofs.crossing.counts_up.Goals as goal

pub returns-then-place-i : goal.returns-then-place-i
returns-then-place-i c = counts-stop c.args.places.now c.loop-i.i c.loop-i-test.true c.if-place-i.true

pub loop-i-preserved : goal.loop-i-preserved
loop-i-preserved c = counts-more c.args.places.now c.loop-i.i c.loop-i-test.true c.loop-i.invariant c.if-place-i.false
