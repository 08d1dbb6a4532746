use Rattle.chyp_iso.proofs.Ends.{ends-refute, hanging-answer}
use Rattle.chyp_iso.proofs.Steps.{when-false, when-true}
use Rattle.chyp_iso.proofs.find.pair_hanging.Goals as goal

pub returns-then-pair_ends-clause-outcome : goal.returns-then-pair_ends-clause-outcome
returns-then-pair_ends-clause-outcome c =
    hanging-answer c.args.a.now c.args.b.now c.args.pairing.now c.pair_ends.new.pairing c.follow_all.new.pairing c.follow_all.result c.requires.fits c.requires.ends c.requires.none
    c.pair_ends.ensures.leads (when-true c.pair_ends.result _ _ c.pair_ends.ensures.outcome c.if-pair_ends.true) c.follow_all.ensures.leads c.follow_all.ensures.outcome

pub returns-else-pair_ends-clause-outcome : goal.returns-else-pair_ends-clause-outcome
returns-else-pair_ends-clause-outcome c =
    rw c.if-pair_ends.false (ends-refute c.args.a.now c.args.b.now c.args.pairing.now c.requires.none (when-false c.pair_ends.result _ _ c.pair_ends.ensures.outcome c.if-pair_ends.false))
