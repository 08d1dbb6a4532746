use Rattle.chyp_pattern.proofs.Joined.{ports-found}
use Rattle.chyp_pattern.proofs.components.find_ports.Goals as goal

pub returns : goal.returns
returns c =
    let made = c.producer.ensures in
    let used = c.consumer.ensures in
    ports-found c.args.graph.now c.requires.valid c.args.w c.producer.result c.consumer.result made.input used.output made.port used.port
    c.args.sweep.now c.find_edge.new.sweep c.find_edge-2.new.sweep c.find_edge.ensures c.find_edge-2.ensures
