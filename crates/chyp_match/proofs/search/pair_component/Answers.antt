use Rattle.chyp_iso.proofs.Searching.{part-leads}
use Rattle.chyp_iso.proofs.Steps.{when-true}
use Rattle.chyp_match.proofs.Rows.{component-answer, followed-start}
use Rattle.chyp_match.proofs.search.pair_component.Goals as goal

pub follow_all-requires-clause-followed : goal.follow_all-requires-clause-followed
follow_all-requires-clause-followed c = followed-start c.args.pattern.now c.args.graph.now _ c.args.pairing.now c.pair_seed.new.pairing c.len-count.result c.len-count.ensures.count
    c.requires.complete c.pair_seed.ensures.leads

pub returns-then-pair_seed-clause-leads : goal.returns-then-pair_seed-clause-leads
returns-then-pair_seed-clause-leads c = part-leads c.args.pattern.now c.args.graph.now _ c.args.pairing.now c.pair_seed.new.pairing c.follow_all.new.pairing c.pair_seed.ensures.leads
    c.follow_all.ensures.leads

pub returns-then-pair_seed-clause-outcome : goal.returns-then-pair_seed-clause-outcome
returns-then-pair_seed-clause-outcome c =
    component-answer c.args.pattern.now c.args.graph.now c.args.seed.now c.args.pairing.now c.pair_seed.new.pairing c.follow_all.new.pairing c.follow_all.result c.requires.fits
    c.pair_seed.ensures.leads
    (when-true c.pair_seed.result _ _ c.pair_seed.ensures.outcome c.if-pair_seed.true) c.follow_all.ensures.leads c.follow_all.ensures.outcome
