use Rattle.std.proofs.Common.{refl}
use Rattle.chyp_print.proofs.Commas.{pushed}
use Rattle.chyp_print.proofs.places.push_places.Goals as goal

pub loop-i-preserved : goal.loop-i-preserved
loop-i-preserved c =
    let added = c.in_ok-push_place.ensures in
    pushed c.args.places.now c.args.out.now.items c.loop-i.out.items c.push_place.new.out.items c.loop-i.i _ c.loop-i-test.true refl c.loop-i.invariant added.first added.next
