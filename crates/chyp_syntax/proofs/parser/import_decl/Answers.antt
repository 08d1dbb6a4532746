use Rattle.std.proofs.Common.{◌≡◌, Err, refl, ◌∙◌, ap, arith}
use Rattle.std.proofs.lemmas.Bool.{both_ways}
use Rattle.std.proofs.lemmas.Result.{err_from_is_err_and}
use Rattle.chyp_lex.specs.declared.token.TokenKind.TheVariants.{Ident, WordImport, WordAs}
use Rattle.chyp_syntax.specs.declared.error.ParseError.TheVariants.{Syntax}
use Rattle.chyp_syntax.specs.Expected.{next, token, tail, prefix_left, nothing}
use Rattle.chyp_syntax.specs.Beginning.{tokens_from}
use Rattle.chyp_syntax.proofs.Numbered.{within_kind}
use Rattle.chyp_syntax.proofs.Pieces.{more_than_nothing}
use Rattle.chyp_syntax.proofs.Statements.{word_expects, import_there, import_as_there}
use Rattle.chyp_syntax.proofs.Verdicts.{token_passes, tail_passes, tail_skips}
use Rattle.chyp_syntax.proofs.parser.import_decl.Goals as goal

pub returns-in_err-expect-clause-stops : goal.returns-in_err-expect-clause-stops
returns-in_err-expect-clause-stops c k is =
    let p = err_from_is_err_and c.from_residual.result c.from_residual.ensures.1 in
    let why : c.in_err-expect.field-0.0 ≡ Syntax k = cc (p.1, p.2) in
    let stops = c.in_err-expect.ensures.stops k (ap Err why) in
    (stops.0, word_expects c.args.tokens.now WordImport (next (token Ident) (next (tail prefix_left) nothing)) refl c.requires.begins ∙ stops.1 (next (tail prefix_left) nothing))

pub returns-in_err-expect_end-clause-stops : goal.returns-in_err-expect_end-clause-stops
returns-in_err-expect_end-clause-stops c k is =
    let p = err_from_is_err_and c.from_residual-in_err-expect_end.result c.from_residual-in_err-expect_end.ensures.1 in
    let why : c.in_err-expect_end.field-0.0 ≡ Syntax k = cc (p.1, p.2) in
    let stops = c.in_err-expect_end.ensures.stops k (ap Err why) in
    let there = more_than_nothing c.args.tokens.now 2 k stops.0 stops.1 in (
      there.0,
      word_expects c.args.tokens.now WordImport (next (token Ident) (next (tail prefix_left) nothing)) refl c.requires.begins
          ∙ token_passes c.args.tokens.now 1 Ident (next (tail prefix_left) nothing) c.in_ok-expect.ensures.there
          ∙ tail_skips prefix_left nothing (tokens_from c.args.tokens.now 2) (λ begins. both_ways c.is_kind.result c.if-not-is_kind.true (c.is_kind.ensures.1 begins)) ∙ there.1,
    )

pub returns-then-not-is_kind-clause-tree : goal.returns-then-not-is_kind-clause-tree
returns-then-not-is_kind-clause-tree c = import_there c.args.tokens.now c.requires.begins c.in_ok-expect.ensures.there c.in_ok-expect_end.ensures.there

pub expect-requires-2-clause-within : goal.expect-requires-2-clause-within
expect-requires-2-clause-within c = omega (arith, within_kind c.args.tokens.now 2 WordAs (c.is_kind.ensures.0 c.if-not-is_kind.false))

pub returns-in_err-expect-2-clause-stops : goal.returns-in_err-expect-2-clause-stops
returns-in_err-expect-2-clause-stops c k is =
    let p = err_from_is_err_and c.from_residual-in_err-expect-2.result c.from_residual-in_err-expect-2.ensures.1 in
    let why : c.in_err-expect-2.field-0.0 ≡ Syntax k = cc (p.1, p.2) in
    let stops = c.in_err-expect-2.ensures.stops k (ap Err why) in (
      stops.0,
      word_expects c.args.tokens.now WordImport (next (token Ident) (next (tail prefix_left) nothing)) refl c.requires.begins
          ∙ token_passes c.args.tokens.now 1 Ident (next (tail prefix_left) nothing) c.in_ok-expect.ensures.there
          ∙ tail_passes c.args.tokens.now 2 prefix_left nothing (c.is_kind.ensures.0 c.if-not-is_kind.false) ∙ stops.1 (nothing),
    )

pub returns-in_err-expect_end-2-clause-stops : goal.returns-in_err-expect_end-2-clause-stops
returns-in_err-expect_end-2-clause-stops c k is =
    let p = err_from_is_err_and c.from_residual-in_err-expect_end-2.result c.from_residual-in_err-expect_end-2.ensures.1 in
    let why : c.in_err-expect_end-2.field-0.0 ≡ Syntax k = cc (p.1, p.2) in
    let stops = c.in_err-expect_end-2.ensures.stops k (ap Err why) in
    let there = more_than_nothing c.args.tokens.now 4 k stops.0 stops.1 in (
      there.0,
      word_expects c.args.tokens.now WordImport (next (token Ident) (next (tail prefix_left) nothing)) refl c.requires.begins
          ∙ token_passes c.args.tokens.now 1 Ident (next (tail prefix_left) nothing) c.in_ok-expect.ensures.there
          ∙ tail_passes c.args.tokens.now 2 prefix_left nothing (c.is_kind.ensures.0 c.if-not-is_kind.false) ∙ token_passes c.args.tokens.now 3 Ident nothing c.in_ok-expect-2.ensures.there ∙ there.1,
    )

pub returns-clause-tree : goal.returns-clause-tree
returns-clause-tree c = import_as_there c.args.tokens.now c.requires.begins c.in_ok-expect.ensures.there
    (c.is_kind.ensures.0 c.if-not-is_kind.false) c.in_ok-expect-2.ensures.there c.in_ok-expect_end-2.ensures.there
