use Rattle.chyp_graph.proofs.Leaves.{pushed-at}
use Rattle.chyp_graph.proofs.draft.push_at.Goals as goal

pub loop-place-preserved : goal.loop-place-preserved
loop-place-preserved c =
    pushed-at c.args.list.now.items c.args.live.now c.args.places.now c.loop-place.list.items c.push.new.self.items c.loop-place.place-index c.index-live-place.result
    c.loop-place-test.true (c.requires c.loop-place.place-index c.loop-place-test.true) c.index-live-place.is c.loop-place.invariant c.in_ok-push.ensures.items
