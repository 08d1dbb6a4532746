use Rattle.std.proofs.Common.{◌≡◌, Err, refl, ◌∙◌, ap}
use Rattle.std.proofs.lemmas.Result.{err_from_is_err_and}
use Rattle.chyp_lex.specs.declared.token.TokenKind.TheVariants.{Ident, Number, Colon, Arrow, WordGen}
use Rattle.chyp_syntax.specs.declared.error.ParseError.TheVariants.{Syntax}
use Rattle.chyp_syntax.specs.Expected.{next, token, nothing}
use Rattle.chyp_syntax.specs.Beginning.{tokens_from}
use Rattle.chyp_syntax.proofs.Numbered.{number_kind}
use Rattle.chyp_syntax.proofs.Pieces.{more_than_nothing}
use Rattle.chyp_syntax.proofs.Statements.{word_expects, named_expects, signed_expects, gen_there}
use Rattle.chyp_syntax.proofs.Verdicts.{token_passes}
use Rattle.chyp_syntax.proofs.parser.gen_decl.Goals as goal

pub returns-in_err-expect-clause-stops : goal.returns-in_err-expect-clause-stops
returns-in_err-expect-clause-stops c k is =
    let p = err_from_is_err_and c.from_residual.result c.from_residual.ensures.1 in
    let why : c.in_err-expect.field-0.0 ≡ Syntax k = cc (p.1, p.2) in
    let stops = c.in_err-expect.ensures.stops k (ap Err why) in (
      stops.0,
      word_expects c.args.tokens.now WordGen (next (token Ident) (next (token Colon) (next (token Number) (next (token Arrow) (next (token Number) nothing))))) refl c.requires.begins
          ∙ stops.1 (next (token Colon) (next (token Number) (next (token Arrow) (next (token Number) nothing)))),
    )

pub returns-in_err-expect-2-clause-stops : goal.returns-in_err-expect-2-clause-stops
returns-in_err-expect-2-clause-stops c k is =
    let p = err_from_is_err_and c.from_residual-in_err-expect-2.result c.from_residual-in_err-expect-2.ensures.1 in
    let why : c.in_err-expect-2.field-0.0 ≡ Syntax k = cc (p.1, p.2) in
    let stops = c.in_err-expect-2.ensures.stops k (ap Err why) in (
      stops.0,
      named_expects c.args.tokens.now WordGen Colon (next (token Number) (next (token Arrow) (next (token Number) nothing))) refl c.requires.begins c.in_ok-expect.ensures.there
          ∙ stops.1 (next (token Number) (next (token Arrow) (next (token Number) nothing))),
    )

pub returns-in_err-dom-clause-stops : goal.returns-in_err-dom-clause-stops
returns-in_err-dom-clause-stops c k is =
    let p = err_from_is_err_and c.from_residual-in_err-dom.result c.from_residual-in_err-dom.ensures.1 in
    let why : c.in_err-dom.field-0.0 ≡ Syntax k = cc (p.1, p.2) in
    let stops = c.in_err-dom.ensures.stops k (ap Err why) in (
      stops.0,
      signed_expects c.args.tokens.now WordGen Colon
          (next (token Number) (next (token Arrow) (next (token Number) nothing))) refl c.requires.begins c.in_ok-expect.ensures.there c.in_ok-expect-2.ensures.there
          ∙ stops.1 (next (token Arrow) (next (token Number) nothing)),
    )

pub returns-in_err-expect-3-clause-stops : goal.returns-in_err-expect-3-clause-stops
returns-in_err-expect-3-clause-stops c k is =
    let p = err_from_is_err_and c.from_residual-in_err-expect-3.result c.from_residual-in_err-expect-3.ensures.1 in
    let why : c.in_err-expect-3.field-0.0 ≡ Syntax k = cc (p.1, p.2) in
    let stops = c.in_err-expect-3.ensures.stops k (ap Err why) in (
      stops.0,
      signed_expects c.args.tokens.now WordGen Colon
          (next (token Number) (next (token Arrow) (next (token Number) nothing))) refl c.requires.begins c.in_ok-expect.ensures.there c.in_ok-expect-2.ensures.there
          ∙ token_passes c.args.tokens.now 3 Number (next (token Arrow) (next (token Number) nothing)) (number_kind c.in_ok-dom.dom (tokens_from c.args.tokens.now 3) c.in_ok-dom.ensures.there)
          ∙ stops.1 (next (token Number) nothing),
    )

pub returns-in_err-cod-clause-stops : goal.returns-in_err-cod-clause-stops
returns-in_err-cod-clause-stops c k is =
    let p = err_from_is_err_and c.from_residual-in_err-cod.result c.from_residual-in_err-cod.ensures.1 in
    let why : c.in_err-cod.field-0.0 ≡ Syntax k = cc (p.1, p.2) in
    let stops = c.in_err-cod.ensures.stops k (ap Err why) in (
      stops.0,
      signed_expects c.args.tokens.now WordGen Colon
          (next (token Number) (next (token Arrow) (next (token Number) nothing))) refl c.requires.begins c.in_ok-expect.ensures.there c.in_ok-expect-2.ensures.there
          ∙ token_passes c.args.tokens.now 3 Number (next (token Arrow) (next (token Number) nothing)) (number_kind c.in_ok-dom.dom (tokens_from c.args.tokens.now 3) c.in_ok-dom.ensures.there)
          ∙ token_passes c.args.tokens.now 4 Arrow (next (token Number) nothing) c.in_ok-expect-3.ensures.there ∙ stops.1 (nothing),
    )

pub returns-in_err-expect_end-clause-stops : goal.returns-in_err-expect_end-clause-stops
returns-in_err-expect_end-clause-stops c k is =
    let p = err_from_is_err_and c.from_residual-in_err-expect_end.result c.from_residual-in_err-expect_end.ensures.1 in
    let why : c.in_err-expect_end.field-0.0 ≡ Syntax k = cc (p.1, p.2) in
    let stops = c.in_err-expect_end.ensures.stops k (ap Err why) in
    let there = more_than_nothing c.args.tokens.now 6 k stops.0 stops.1 in (
      there.0,
      signed_expects c.args.tokens.now WordGen Colon
          (next (token Number) (next (token Arrow) (next (token Number) nothing))) refl c.requires.begins c.in_ok-expect.ensures.there c.in_ok-expect-2.ensures.there
          ∙ token_passes c.args.tokens.now 3 Number (next (token Arrow) (next (token Number) nothing)) (number_kind c.in_ok-dom.dom (tokens_from c.args.tokens.now 3) c.in_ok-dom.ensures.there)
          ∙ token_passes c.args.tokens.now 4 Arrow (next (token Number) nothing) c.in_ok-expect-3.ensures.there
          ∙ token_passes c.args.tokens.now 5 Number nothing (number_kind c.in_ok-cod.cod (tokens_from c.args.tokens.now 5) c.in_ok-cod.ensures.there) ∙ there.1,
    )

pub returns-clause-tree : goal.returns-clause-tree
returns-clause-tree c =
    gen_there c.args.tokens.now c.in_ok-dom.dom c.in_ok-cod.cod c.requires.begins c.in_ok-expect.ensures.there c.in_ok-expect-2.ensures.there c.in_ok-dom.ensures.there c.in_ok-expect-3.ensures.there
    c.in_ok-cod.ensures.there c.in_ok-expect_end.ensures.there
