use Rattle.std.proofs.Common.{◌≡◌, Err, ◌∙◌, ap}
use Rattle.std.proofs.lemmas.Result.{err_from_is_err_and}
use Rattle.chyp_syntax.specs.declared.error.ParseError.TheVariants.{Syntax}
use Rattle.chyp_syntax.specs.Expected.{nothing}
use Rattle.chyp_syntax.proofs.Pieces.{is_hole, more_than_nothing}
use Rattle.chyp_syntax.proofs.steps.hole.Goals as goal

pub returns-in_err-expect_end-clause-stops : goal.returns-in_err-expect_end-clause-stops
returns-in_err-expect_end-clause-stops c k is =
    let p = err_from_is_err_and c.from_residual-in_err-expect_end.result c.from_residual-in_err-expect_end.ensures.1 in
    let why : c.in_err-expect_end.field-0.0 ≡ Syntax k = cc (p.1, p.2) in
    let stops = c.in_err-expect_end.ensures.stops k (ap Err why) in
    let there = more_than_nothing c.args.tokens.now c.in_ok-reason.end k stops.0 stops.1 in
    (there.0, c.in_ok-reason.ensures.passes nothing ∙ there.1)

pub returns-clause-read : goal.returns-clause-read
returns-clause-read c = is_hole c.args.tokens.now c.args.at c.in_ok-reason.end c.in_ok-reason.reason c.requires.begins c.requires.marked c.in_ok-reason.ensures.read c.in_ok-expect_end.ensures.there
