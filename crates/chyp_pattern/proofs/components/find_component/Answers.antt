use Rattle.std.proofs.Common.{◌∙◌, ◌<◌, subst, arith}
use Rattle.chyp_pattern.proofs.Joined.{part-end, part-more, part-start}
use Rattle.chyp_pattern.proofs.components.find_component.Goals as goal

pub loop-next-init : goal.loop-next-init
loop-next-init c = part-start c.args.graph.now c.args.k c.len-next.result c.args.sweep.now c.find.new.self c.len-next.ensures.count c.requires.closed c.find.ensures

pub find_neighbours-requires-clause-room : goal.find_neighbours-requires-clause-room
find_neighbours-requires-clause-room c = c.loop-next.invariant.grows.edges ∙ c.requires.room

pub find_neighbours-requires-clause-there : goal.find_neighbours-requires-clause-there
find_neighbours-requires-clause-there c = subst (λ n. c.edge-edge.result < n) (c.loop-next.invariant.grows.edges ∙ c.requires.room) c.edge-edge.ensures.within

pub loop-next-preserved : goal.loop-next-preserved
loop-next-preserved c =
    part-more c.args.graph.now c.args.k c.loop-next.next c.edge-edge.result c.args.sweep.now c.loop-next.sweep c.find_neighbours.new.sweep c.requires.closed
    c.edge-edge.ensures.edge c.loop-next.invariant c.find_neighbours.ensures

pub returns : goal.returns
returns c =
    let n = c.len.ensures.count in
    let f = c.loop-next-test.false in
    part-end c.args.graph.now c.args.k c.loop-next.next c.args.sweep.now c.loop-next.sweep (omega arith) c.loop-next.invariant
