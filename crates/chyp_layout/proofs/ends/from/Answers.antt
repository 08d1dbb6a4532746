use Rattle.chyp_layout.proofs.Ports.{from-port, from-rim, rim-of_none}
use Rattle.chyp_layout.proofs.ends.from.Goals as goal

pub returns-in-Some : goal.returns-in-Some
returns-in-Some c = rw c.edge.view_is (from-port c.args.graph.now c.requires.valid c.args.wire _ _ c.in-Some.ensures.port)

pub returns-in-None : goal.returns-in-None
returns-in-None c = rw c.wire.view_is (from-rim c.args.graph.now c.requires.valid c.args.inputs.now c.args.wire
    (rim-of_none c.args.graph.now.inputs c.args.wire c.producer.result c.producer.ensures.input c.in-None.is) c.requires.places)
