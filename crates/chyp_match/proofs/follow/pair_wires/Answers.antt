use Rattle.std.proofs.Common.{◌∙◌, sym, inl, refl}
use Rattle.chyp_pairs.specs.declared.pair.Pair.TheVariants.{Wires}
use Rattle.chyp_iso.specs.Pair.{WiresFit}
use Rattle.chyp_iso.proofs.Followed.{Leads-one}
use Rattle.chyp_pairs.proofs.PairLists.{has-right}
use Rattle.chyp_iso.proofs.Steps.{when-false, when-true}
use Rattle.chyp_match.proofs.Refuting.{known_wire-answer, sorts-refute, taken_wire-answer}
use Rattle.chyp_match.proofs.follow.pair_wires.Goals as goal

pub returns-in-Some-clause-outcome : goal.returns-in-Some-clause-outcome
returns-in-Some-clause-outcome c =
    known_wire-answer c.args.pattern.now c.args.graph.now c.args.pairing.now.pairs c.args.v c.args.w c.in-Some.image c.eq.result (sym c.wire.ensures.image ∙ c.in-Some.is) c.eq.ensures

pub returns-then-is_some-clause-outcome : goal.returns-then-is_some-clause-outcome
returns-then-is_some-clause-outcome c =
    taken_wire-answer c.args.pattern.now c.args.graph.now c.args.pairing.now c.requires.fits c.wire.ensures.matching c.args.v c.args.w c.wire_back.result c.requires.there
    c.wire_back.ensures.image (sym c.is_some.ensures ∙ c.if-is_some.true) (sym c.wire.ensures.image ∙ c.in_default.is)

pub returns-then-not-same_sort-clause-outcome : goal.returns-then-not-same_sort-clause-outcome
returns-then-not-same_sort-clause-outcome c =
    sorts-refute c.args.pattern.now c.args.graph.now c.args.pairing.now.pairs c.args.v c.args.w c.requires.there (when-false c.same_sort.result _ _ c.same_sort.ensures c.if-not-same_sort.true)

pub returns-clause-leads : goal.returns-clause-leads
returns-clause-leads c =
    let fit : WiresFit c.args.pattern.now c.args.graph.now c.args.v c.args.w = record {
      there = c.requires.there;
      within = c.requires.within;
      sorts = when-true c.same_sort.result _ _ c.same_sort.ensures c.if-not-same_sort.false;
    } in
    rw c.add_wires.ensures (Leads-one c.args.pattern.now c.args.graph.now (Wires c.args.v c.args.w) c.args.pairing.now c.requires.fits fit)

pub returns-clause-outcome : goal.returns-clause-outcome
returns-clause-outcome c = rw c.add_wires.ensures (has-right c.args.pairing.now.pairs _ (Wires c.args.v c.args.w) (inl refl))
