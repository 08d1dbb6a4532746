use Rattle.std.proofs.Common.{◌≡◌, Err, refl, ◌∙◌, ap}
use Rattle.std.proofs.lemmas.Result.{err_from_is_err_and}
use Rattle.chyp_lex.specs.declared.token.TokenKind.TheVariants.{WordShow}
use Rattle.chyp_syntax.specs.declared.error.ParseError.TheVariants.{Syntax}
use Rattle.chyp_syntax.specs.Expected.{next, name, nothing}
use Rattle.chyp_syntax.proofs.Pieces.{more_than_nothing, name_passes}
use Rattle.chyp_syntax.proofs.Statements.{word_expects, show_there}
use Rattle.chyp_syntax.proofs.parser.show_decl.Goals as goal

pub returns-in_err-expect_name-clause-stops : goal.returns-in_err-expect_name-clause-stops
returns-in_err-expect_name-clause-stops c k is =
    let p = err_from_is_err_and c.from_residual.result c.from_residual.ensures.1 in
    let why : c.in_err-expect_name.field-0.0 ≡ Syntax k = cc (p.1, p.2) in
    let stops = c.in_err-expect_name.ensures.stops k (ap Err why) in
    (stops.0, word_expects c.args.tokens.now WordShow (next name nothing) refl c.requires.begins ∙ stops.1 (nothing))

pub returns-in_err-expect_end-clause-stops : goal.returns-in_err-expect_end-clause-stops
returns-in_err-expect_end-clause-stops c k is =
    let p = err_from_is_err_and c.from_residual-in_err-expect_end.result c.from_residual-in_err-expect_end.ensures.1 in
    let why : c.in_err-expect_end.field-0.0 ≡ Syntax k = cc (p.1, p.2) in
    let stops = c.in_err-expect_end.ensures.stops k (ap Err why) in
    let there = more_than_nothing c.args.tokens.now 2 k stops.0 stops.1 in
    (there.0, word_expects c.args.tokens.now WordShow (next name nothing) refl c.requires.begins ∙ name_passes c.args.tokens.now 1 nothing c.in_ok-expect_name.ensures.there ∙ there.1)

pub returns-clause-tree : goal.returns-clause-tree
returns-clause-tree c = show_there c.args.tokens.now c.requires.begins c.in_ok-expect_name.ensures.there c.in_ok-expect_end.ensures.there
