use Rattle.chyp_iso.specs.Port.{the_targets}
use Rattle.chyp_iso.proofs.Ups.{end-edge, end-targets, up-leads}
use Rattle.chyp_match.proofs.Ends.{up-answer}
use Rattle.chyp_match.proofs.follow.follow_producers.Goals as goal

pub pair_ports-requires-clause-there : goal.pair_ports-requires-clause-there
pair_ports-requires-clause-there c = end-edge c.args.pattern.now the_targets c.args.v c.producer-first.result c.producer-first.ensures.port

pub pair_ports-requires-clause-within : goal.pair_ports-requires-clause-within
pair_ports-requires-clause-within c = end-edge c.args.graph.now the_targets c.args.w c.producer-second.result c.producer-second.ensures.port

pub returns-clause-leads : goal.returns-clause-leads
returns-clause-leads c =
    let first = end-targets c.args.pattern.now c.requires.fits.first_valid c.args.v c.producer-first.result c.producer-first.ensures.port c.producer-first.ensures.input in
    let second = end-targets c.args.graph.now c.requires.fits.second_valid c.args.w c.producer-second.result c.producer-second.ensures.port c.producer-second.ensures.input in
    up-leads c.args.pattern.now c.args.graph.now c.args.pairing.now c.pair_ports.new.pairing the_targets c.args.v c.args.w _ _ c.requires.paired first second c.pair_ports.ensures.leads

pub returns-clause-outcome : goal.returns-clause-outcome
returns-clause-outcome c =
    let first = end-targets c.args.pattern.now c.requires.fits.first_valid c.args.v c.producer-first.result c.producer-first.ensures.port c.producer-first.ensures.input in
    let second = end-targets c.args.graph.now c.requires.fits.second_valid c.args.w c.producer-second.result c.producer-second.ensures.port c.producer-second.ensures.input in
    up-answer c.args.pattern.now c.args.graph.now c.args.pairing.now c.pair_ports.new.pairing the_targets c.args.v c.args.w _ _ c.pair_ports.result c.requires.fits c.requires.paired first second
    c.pair_ports.ensures.outcome
