use Rattle.std.proofs.Common.{◌∙◌}
use Rattle.chyp_pattern.proofs.Joined.{all-more, all-none}
use Rattle.chyp_term.proofs.Closure.{get-item}
use Rattle.chyp_pattern.proofs.components.find_all.Goals as goal

pub find_ports-requires-clause-room : goal.find_ports-requires-clause-room
find_ports-requires-clause-room c = c.loop-w.invariant.grows.edges ∙ c.requires.room

pub loop-w-preserved : goal.loop-w-preserved
loop-w-preserved c =
    let wires = c.args.wires.now in
    all-more c.args.graph.now wires c.loop-w.w-index c.w-item.result c.args.sweep.now c.loop-w.sweep c.find_ports.new.sweep
    (get-item wires c.loop-w.w-index c.w-item.result c.loop-w-test.true c.w-item.is) c.loop-w.invariant
    c.find_ports.ensures

pub loop-w-init : goal.loop-w-init
loop-w-init c = all-none c.args.graph.now c.args.sweep.now
