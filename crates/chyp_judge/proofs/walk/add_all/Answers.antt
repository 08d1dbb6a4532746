use Rattle.std.proofs.Common.{arith}
use Rattle.chyp_term.proofs.Closure.{get-item}
use Rattle.chyp_judge.proofs.Partnering.{may-still}
use Rattle.chyp_judge.proofs.walk.add_all.Goals as goal

pub add-requires-clause-linked : goal.add-requires-clause-linked
add-requires-clause-linked c =
    let size = c.requires.size in
    let here = c.loop-i-test.true in
    (may-still c.args.walk.now c.loop-i.walk c.args.origin c.args.partners.now c.args.wires.now c.loop-i.invariant c.requires.may).linked c.loop-i.i c.index-partners-i.result c.index-wires-i.result
    (get-item c.args.partners.now c.loop-i.i c.index-partners-i.result (omega arith) c.index-partners-i.is)
    (get-item c.args.wires.now c.loop-i.i c.index-wires-i.result here c.index-wires-i.is)

pub add-requires-clause-earlier : goal.add-requires-clause-earlier
add-requires-clause-earlier c =
    (may-still c.args.walk.now c.loop-i.walk c.args.origin c.args.partners.now c.args.wires.now c.loop-i.invariant c.requires.may).earlier
