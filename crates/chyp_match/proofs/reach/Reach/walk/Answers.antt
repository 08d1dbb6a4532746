use Rattle.std.proofs.Common.{arith}
use Rattle.chyp_match.proofs.Reaching.{walk-row}
use Rattle.chyp_match.proofs.reach.Reach.walk.Goals as goal

pub returns-clause-row : goal.returns-clause-row
returns-clause-row c = λ k a.
    let i = c.loop-next.invariant in
    let e = c.len.ensures in
    let t = c.loop-next-test.false in
    walk-row c.args.graph.now k c.loop-next.next c.loop-next.self.spare.marks c.loop-next.self.queue.items i.under_way.size (omega (arith, c.loop-next.self.queue.ok.0)) (i.walk k a)
