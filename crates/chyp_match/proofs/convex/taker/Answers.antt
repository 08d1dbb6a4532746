use Rattle.std.proofs.Common.{◌∙◌, sym, subst}
use Rattle.chyp_iso.specs.Port.{the_sources}
use Rattle.chyp_iso.proofs.Steps.{there-wires}
use Rattle.chyp_iso.proofs.Ups.{end-sources}
use Rattle.chyp_match.specs.Convex.{IsTheOne, TakesImage}
use Rattle.chyp_match.proofs.Ending.{no-end, no-image, the-end}
use Rattle.chyp_match.proofs.convex.taker.Goals as goal

pub returns-in_err-image : goal.returns-in_err-image
returns-in_err-image c =
    subst (IsTheOne (TakesImage c.args.graph.now c.args.pairing.now.pairs c.args.v)) (sym c.from_residual.ensures)
    (no-image c.args.graph.now c.valid.ensures.valid c.args.pairing.now.pairs c.wire.ensures.matching the_sources c.args.v (sym c.wire.ensures.image ∙ c.in_err-image.was))

pub consumer-requires : goal.consumer-requires
consumer-requires c = c.requires.within c.in_ok-image.image (there-wires c.args.pairing.now.pairs c.args.v c.in_ok-image.image (sym c.wire.ensures.image ∙ c.in_ok-image.was))

pub returns-in_err-j : goal.returns-in_err-j
returns-in_err-j c =
    subst (IsTheOne (TakesImage c.args.graph.now c.args.pairing.now.pairs c.args.v)) (sym c.from_residual-in_err-j.ensures)
    (no-end c.args.graph.now c.valid.ensures.valid c.args.pairing.now.pairs c.wire.ensures.matching the_sources c.args.v c.in_ok-image.image c.consumer.result
    (sym c.wire.ensures.image ∙ c.in_ok-image.was)
    (end-sources c.args.graph.now c.valid.ensures.valid c.in_ok-image.image c.consumer.result c.consumer.ensures.port c.consumer.ensures.output) c.in_err-j.was)

pub returns : goal.returns
returns c =
    the-end c.args.graph.now c.valid.ensures.valid c.args.pairing.now.pairs c.wire.ensures.matching the_sources c.args.v c.in_ok-image.image c.in_ok-j.j c.in_ok-j.field-0-1
    (sym c.wire.ensures.image ∙ c.in_ok-image.was)
    c.in_ok-j.ensures.port
