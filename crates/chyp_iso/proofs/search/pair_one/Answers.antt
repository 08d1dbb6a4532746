use Rattle.std.proofs.Common.{◌∙◌, sym}
use Rattle.chyp_iso.proofs.Searching.{one-answer, one-known}
use Rattle.chyp_iso.proofs.Steps.{not_some}
use Rattle.chyp_iso.proofs.search.pair_one.Goals as goal

pub returns-then-is_some-clause-outcome : goal.returns-then-is_some-clause-outcome
returns-then-is_some-clause-outcome c = one-known c.args.a.now c.args.b.now c.args.pairing.now c.args.e c.edge.result c.requires.whole c.edge.ensures.image (sym c.is_some.ensures ∙ c.if-is_some.true)

pub pair_somehow-requires-clause-new : goal.pair_somehow-requires-clause-new
pair_somehow-requires-clause-new c = sym c.edge.ensures.image ∙ not_some c.edge.result (sym c.is_some.ensures ∙ c.if-is_some.false)

pub returns-clause-outcome : goal.returns-clause-outcome
returns-clause-outcome c =
    one-answer c.args.a.now c.args.b.now c.args.pairing.now c.pair_somehow.new.pairing c.args.e c.pair_somehow.result c.requires.whole
    (sym c.edge.ensures.image ∙ not_some c.edge.result (sym c.is_some.ensures ∙ c.if-is_some.false)) c.pair_somehow.ensures.outcome
