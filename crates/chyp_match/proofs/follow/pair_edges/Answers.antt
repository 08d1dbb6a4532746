use Rattle.std.proofs.Common.{◌∙◌, sym, inl, refl}
use Rattle.chyp_pairs.specs.declared.pair.Pair.TheVariants.{Edges}
use Rattle.chyp_iso.specs.Pair.{EdgesFit}
use Rattle.chyp_iso.proofs.Followed.{Leads-one}
use Rattle.chyp_pairs.proofs.PairLists.{has-right}
use Rattle.chyp_iso.proofs.Steps.{when-false, when-true}
use Rattle.chyp_match.proofs.Refuting.{known_edge-answer, alike-refutes, taken_edge-answer}
use Rattle.chyp_match.proofs.follow.pair_edges.Goals as goal

pub returns-in-Some-clause-outcome : goal.returns-in-Some-clause-outcome
returns-in-Some-clause-outcome c =
    known_edge-answer c.args.pattern.now c.args.graph.now c.args.pairing.now.pairs c.args.e c.args.f c.in-Some.image c.eq.result (sym c.edge.ensures.image ∙ c.in-Some.is) c.eq.ensures

pub returns-then-is_some-clause-outcome : goal.returns-then-is_some-clause-outcome
returns-then-is_some-clause-outcome c =
    taken_edge-answer c.args.pattern.now c.args.graph.now c.args.pairing.now c.requires.fits c.edge.ensures.matching c.args.e c.args.f c.edge_back.result c.requires.there
    c.edge_back.ensures.image (sym c.is_some.ensures ∙ c.if-is_some.true) (sym c.edge.ensures.image ∙ c.in_default.is)

pub returns-then-not-alike-clause-outcome : goal.returns-then-not-alike-clause-outcome
returns-then-not-alike-clause-outcome c =
    alike-refutes c.args.pattern.now c.args.graph.now c.args.pairing.now.pairs c.args.e c.args.f _ _ c.edge-2.ensures c.edge-3.ensures
    (when-false c.alike.result _ _ c.alike.ensures c.if-not-alike.true)

pub returns-clause-leads : goal.returns-clause-leads
returns-clause-leads c =
    let fit : EdgesFit c.args.pattern.now c.args.graph.now c.args.e c.args.f = record {
      first = _;
      second = _;
      first_is = c.edge-2.ensures;
      second_is = c.edge-3.ensures;
      alike = when-true c.alike.result _ _ c.alike.ensures c.if-not-alike.false;
    } in
    rw c.add_edges.ensures (Leads-one c.args.pattern.now c.args.graph.now (Edges c.args.e c.args.f) c.args.pairing.now c.requires.fits fit)

pub returns-clause-outcome : goal.returns-clause-outcome
returns-clause-outcome c = rw c.add_edges.ensures (has-right c.args.pairing.now.pairs _ (Edges c.args.e c.args.f) (inl refl))
