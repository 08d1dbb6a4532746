use Rattle.std.proofs.Common.{◌∙◌, arith, refl}
use Rattle.chyp_iso.proofs.Searching.{extended-same, extended-trans, known-next}
use Rattle.chyp_iso.proofs.Steps.{when-true}
use Rattle.chyp_iso.proofs.search.pair_rest.Goals as goal

pub loop-e-init : goal.loop-e-init
loop-e-init c = record {
  extended = extended-same c.args.a.now c.args.b.now c.args.pairing.now c.requires.whole;
  known = λ e l. absurd (omega arith);
  edges = refl;
  wires = refl;
}

pub loop-e-preserved : goal.loop-e-preserved
loop-e-preserved c =
    let r = when-true c.pair_one.result _ _ c.pair_one.ensures.outcome c.if-not-pair_one.false in
    record {
      extended = extended-trans c.args.a.now c.args.b.now c.args.pairing.now c.loop-e.pairing c.pair_one.new.pairing c.loop-e.invariant.extended r.0;
      known = known-next c.args.a.now c.args.b.now c.loop-e.pairing c.pair_one.new.pairing c.loop-e.e r.0 c.loop-e.invariant.known r.1;
      edges = c.pair_one.ensures.sizes.0 ∙ c.loop-e.invariant.edges;
      wires = c.pair_one.ensures.sizes.1 ∙ c.loop-e.invariant.wires;
    }
