use Rattle.std.proofs.Common.{subst}
use Rattle.chyp_pairs.specs.Pairs.{Has}
use Rattle.chyp_iso.proofs.Ends.{whole-answer}
use Rattle.chyp_iso.proofs.Steps.{when-true}
use Rattle.chyp_iso.proofs.find.pair_all.Goals as goal

pub pair_hanging-requires-clause-fits : goal.pair_hanging-requires-clause-fits
pair_hanging-requires-clause-fits c = record {
  first_valid = c.same_ends.ensures.valid.0;
  second_valid = c.same_ends.ensures.valid.1;
  first = c.requires.first;
  second = c.requires.second;
  pairs = λ p k. absurd (subst (λ l. Has l p) c.requires.none k);
}

pub returns-then-pair_hanging-clause-outcome : goal.returns-then-pair_hanging-clause-outcome
returns-then-pair_hanging-clause-outcome c =
    whole-answer c.args.a.now c.args.b.now c.pair_hanging.new.pairing c.pair_rest.new.pairing c.pair_rest.result (when-true c.same_counts.result _ _ c.same_counts.ensures c.if-not-same_counts.false)
    (when-true c.pair_hanging.result _ _ c.pair_hanging.ensures.outcome c.if-pair_hanging.true) c.pair_rest.ensures.outcome
