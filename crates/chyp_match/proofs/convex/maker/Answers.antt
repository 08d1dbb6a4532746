use Rattle.std.proofs.Common.{◌∙◌, sym, subst}
use Rattle.chyp_iso.specs.Port.{the_targets}
use Rattle.chyp_iso.proofs.Steps.{there-wires}
use Rattle.chyp_iso.proofs.Ups.{end-targets}
use Rattle.chyp_match.specs.Convex.{IsTheOne, MakesImage}
use Rattle.chyp_match.proofs.Ending.{no-end, no-image, the-end}
use Rattle.chyp_match.proofs.convex.maker.Goals as goal

pub returns-in_err-image : goal.returns-in_err-image
returns-in_err-image c =
    subst (IsTheOne (MakesImage c.args.graph.now c.args.pairing.now.pairs c.args.u)) (sym c.from_residual.ensures)
    (no-image c.args.graph.now c.valid.ensures.valid c.args.pairing.now.pairs c.wire.ensures.matching the_targets c.args.u (sym c.wire.ensures.image ∙ c.in_err-image.was))

pub producer-requires : goal.producer-requires
producer-requires c = c.requires.within c.in_ok-image.image (there-wires c.args.pairing.now.pairs c.args.u c.in_ok-image.image (sym c.wire.ensures.image ∙ c.in_ok-image.was))

pub returns-in_err-k : goal.returns-in_err-k
returns-in_err-k c =
    subst (IsTheOne (MakesImage c.args.graph.now c.args.pairing.now.pairs c.args.u)) (sym c.from_residual-in_err-k.ensures)
    (no-end c.args.graph.now c.valid.ensures.valid c.args.pairing.now.pairs c.wire.ensures.matching the_targets c.args.u c.in_ok-image.image c.producer.result
    (sym c.wire.ensures.image ∙ c.in_ok-image.was)
    (end-targets c.args.graph.now c.valid.ensures.valid c.in_ok-image.image c.producer.result c.producer.ensures.port c.producer.ensures.input) c.in_err-k.was)

pub returns : goal.returns
returns c =
    the-end c.args.graph.now c.valid.ensures.valid c.args.pairing.now.pairs c.wire.ensures.matching the_targets c.args.u c.in_ok-image.image c.in_ok-k.k c.in_ok-k.field-0-1
    (sym c.wire.ensures.image ∙ c.in_ok-image.was)
    c.in_ok-k.ensures.port
