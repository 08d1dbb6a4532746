use Rattle.chyp_graph.specs.PlainGraph.{Edge}
use Rattle.chyp_iso.specs.Port.{the_sources, the_targets}
use Rattle.chyp_iso.proofs.Lists.{all-ports, down-leads, ports-leads}
use Rattle.chyp_match.proofs.Rows.{down-refute, ports-answer}
use Rattle.chyp_iso.proofs.Steps.{when-false, when-true}
use Rattle.chyp_match.proofs.follow.follow_ports.Goals as goal

pub pair_lists-requires-clause-there : goal.pair_lists-requires-clause-there
pair_lists-requires-clause-there c =
    let first : Edge = record { name = c.edge-first.result.name.now; sources = c.edge-first.result.sources.now; targets = c.edge-first.result.targets.now } in
    let second : Edge = record { name = c.edge-second.result.name.now; sources = c.edge-second.result.sources.now; targets = c.edge-second.result.targets.now } in
    all-ports c.args.pattern.now c.requires.fits.first_valid the_sources c.args.e first c.edge-first.ensures

pub pair_lists-requires-clause-within : goal.pair_lists-requires-clause-within
pair_lists-requires-clause-within c =
    let first : Edge = record { name = c.edge-first.result.name.now; sources = c.edge-first.result.sources.now; targets = c.edge-first.result.targets.now } in
    let second : Edge = record { name = c.edge-second.result.name.now; sources = c.edge-second.result.sources.now; targets = c.edge-second.result.targets.now } in
    all-ports c.args.graph.now c.requires.fits.second_valid the_sources c.args.f second c.edge-second.ensures

pub pair_lists-requires-then-pair_lists-clause-there : goal.pair_lists-requires-then-pair_lists-clause-there
pair_lists-requires-then-pair_lists-clause-there c =
    let first : Edge = record { name = c.edge-first.result.name.now; sources = c.edge-first.result.sources.now; targets = c.edge-first.result.targets.now } in
    let second : Edge = record { name = c.edge-second.result.name.now; sources = c.edge-second.result.sources.now; targets = c.edge-second.result.targets.now } in
    all-ports c.args.pattern.now c.requires.fits.first_valid the_targets c.args.e first c.edge-first.ensures

pub pair_lists-requires-then-pair_lists-clause-within : goal.pair_lists-requires-then-pair_lists-clause-within
pair_lists-requires-then-pair_lists-clause-within c =
    let first : Edge = record { name = c.edge-first.result.name.now; sources = c.edge-first.result.sources.now; targets = c.edge-first.result.targets.now } in
    let second : Edge = record { name = c.edge-second.result.name.now; sources = c.edge-second.result.sources.now; targets = c.edge-second.result.targets.now } in
    all-ports c.args.graph.now c.requires.fits.second_valid the_targets c.args.f second c.edge-second.ensures

pub returns-then-pair_lists-clause-leads : goal.returns-then-pair_lists-clause-leads
returns-then-pair_lists-clause-leads c =
    let first : Edge = record { name = c.edge-first.result.name.now; sources = c.edge-first.result.sources.now; targets = c.edge-first.result.targets.now } in
    let second : Edge = record { name = c.edge-second.result.name.now; sources = c.edge-second.result.sources.now; targets = c.edge-second.result.targets.now } in
    ports-leads c.args.pattern.now c.args.graph.now c.args.pairing.now c.pair_lists.new.pairing c.pair_lists-then-pair_lists.new.pairing c.args.e c.args.f first second c.edge-first.ensures
    c.edge-second.ensures c.requires.paired c.pair_lists.ensures.leads c.pair_lists-then-pair_lists.ensures.leads

pub returns-then-pair_lists-clause-outcome : goal.returns-then-pair_lists-clause-outcome
returns-then-pair_lists-clause-outcome c =
    let first : Edge = record { name = c.edge-first.result.name.now; sources = c.edge-first.result.sources.now; targets = c.edge-first.result.targets.now } in
    let second : Edge = record { name = c.edge-second.result.name.now; sources = c.edge-second.result.sources.now; targets = c.edge-second.result.targets.now } in
    ports-answer c.args.pattern.now c.args.graph.now c.args.pairing.now c.pair_lists.new.pairing c.pair_lists-then-pair_lists.new.pairing c.args.e c.args.f first second
    c.pair_lists-then-pair_lists.result c.requires.fits c.edge-first.ensures c.edge-second.ensures c.requires.paired
    c.pair_lists.ensures.leads (when-true c.pair_lists.result _ _ c.pair_lists.ensures.outcome c.if-pair_lists.true) c.pair_lists-then-pair_lists.ensures.leads
    c.pair_lists-then-pair_lists.ensures.outcome

pub returns-else-pair_lists-clause-leads : goal.returns-else-pair_lists-clause-leads
returns-else-pair_lists-clause-leads c =
    let first : Edge = record { name = c.edge-first.result.name.now; sources = c.edge-first.result.sources.now; targets = c.edge-first.result.targets.now } in
    let second : Edge = record { name = c.edge-second.result.name.now; sources = c.edge-second.result.sources.now; targets = c.edge-second.result.targets.now } in
    down-leads c.args.pattern.now c.args.graph.now c.args.pairing.now c.pair_lists.new.pairing the_sources c.args.e c.args.f first second c.edge-first.ensures c.edge-second.ensures
    c.requires.paired c.pair_lists.ensures.leads

pub returns-else-pair_lists-clause-outcome : goal.returns-else-pair_lists-clause-outcome
returns-else-pair_lists-clause-outcome c =
    let first : Edge = record { name = c.edge-first.result.name.now; sources = c.edge-first.result.sources.now; targets = c.edge-first.result.targets.now } in
    let second : Edge = record { name = c.edge-second.result.name.now; sources = c.edge-second.result.sources.now; targets = c.edge-second.result.targets.now } in
    rw c.if-pair_lists.false (down-refute c.args.pattern.now c.args.graph.now c.args.pairing.now.pairs the_sources c.args.e c.args.f first second c.requires.fits.second_valid
    c.edge-first.ensures c.edge-second.ensures c.requires.paired (when-false c.pair_lists.result _ _ c.pair_lists.ensures.outcome c.if-pair_lists.false))
