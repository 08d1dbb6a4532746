use Rattle.std.proofs.Common.{◌∙◌, sym, refl}
use Rattle.chyp_iso.proofs.Steps.{taken_edge-answer}
use Rattle.chyp_iso.proofs.search.try_part.Goals as goal

pub returns-then-is_some : goal.returns-then-is_some
returns-then-is_some c = record {
  outcome = (
    refl,
    taken_edge-answer c.args.a.now c.args.b.now c.args.pairing.now c.requires.whole.fits c.requires.whole.matching c.args.e c.args.f c.edge_back.result c.requires.there
        c.edge_back.ensures.image (sym c.is_some.ensures ∙ c.if-is_some.true) c.requires.new,
  );
}
