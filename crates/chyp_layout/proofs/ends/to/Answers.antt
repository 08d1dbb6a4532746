use Rattle.chyp_layout.proofs.Ports.{to-port, to-rim, rim-of_none}
use Rattle.chyp_layout.proofs.ends.to.Goals as goal

pub returns-in-Some : goal.returns-in-Some
returns-in-Some c = rw c.edge.view_is (to-port c.args.graph.now c.requires.valid c.args.wire _ _ c.in-Some.ensures.port)

pub returns-in-None : goal.returns-in-None
returns-in-None c = rw c.wire.view_is (to-rim c.args.graph.now c.requires.valid c.args.outputs.now c.args.wire
    (rim-of_none c.args.graph.now.outputs c.args.wire c.consumer.result c.consumer.ensures.output c.in-None.is) c.requires.places)
