use Rattle.std.proofs.Common.{◌≡◌, Err, refl, ◌∙◌, ap}
use Rattle.std.proofs.lemmas.Result.{err_from_is_err_and}
use Rattle.chyp_lex.specs.declared.token.TokenKind.TheVariants.{Ident, Colon, Equals, WordRule}
use Rattle.chyp_syntax.specs.declared.error.ParseError.TheVariants.{Syntax}
use Rattle.chyp_syntax.specs.Expected.{next, token, nothing, term_then}
use Rattle.chyp_syntax.specs.Sentence.{most_nested}
use Rattle.chyp_syntax.specs.Term.{TermTree, tree_of}
use Rattle.chyp_syntax.proofs.Pieces.{more_than_nothing}
use Rattle.chyp_syntax.proofs.Statements.{word_expects, named_expects, signed_expects, rule_there}
use Rattle.chyp_syntax.proofs.Verdicts.{token_passes}
use Rattle.chyp_syntax.proofs.parser.rule_decl.Goals as goal

pub returns-in_err-expect-clause-stops : goal.returns-in_err-expect-clause-stops
returns-in_err-expect-clause-stops c k is =
    let p = err_from_is_err_and c.from_residual.result c.from_residual.ensures.1 in
    let why : c.in_err-expect.field-0.0 ≡ Syntax k = cc (p.1, p.2) in
    let stops = c.in_err-expect.ensures.stops k (ap Err why) in (
      stops.0,
      word_expects c.args.tokens.now WordRule (next (token Ident) (next (token Colon) (term_then most_nested (next (token Equals) (term_then most_nested nothing))))) refl c.requires.begins
          ∙ stops.1 (next (token Colon) (term_then most_nested (next (token Equals) (term_then most_nested nothing)))),
    )

pub returns-in_err-expect-2-clause-stops : goal.returns-in_err-expect-2-clause-stops
returns-in_err-expect-2-clause-stops c k is =
    let p = err_from_is_err_and c.from_residual-in_err-expect-2.result c.from_residual-in_err-expect-2.ensures.1 in
    let why : c.in_err-expect-2.field-0.0 ≡ Syntax k = cc (p.1, p.2) in
    let stops = c.in_err-expect-2.ensures.stops k (ap Err why) in (
      stops.0,
      named_expects c.args.tokens.now WordRule Colon (term_then most_nested (next (token Equals) (term_then most_nested nothing))) refl c.requires.begins c.in_ok-expect.ensures.there
          ∙ stops.1 (term_then most_nested (next (token Equals) (term_then most_nested nothing))),
    )

pub returns-in_err-left-clause-stops : goal.returns-in_err-left-clause-stops
returns-in_err-left-clause-stops c k is =
    let p = err_from_is_err_and c.from_residual-in_err-left.result c.from_residual-in_err-left.ensures.1 in
    let why : c.in_err-left.field-0.0 ≡ Syntax k = cc (p.1, p.2) in
    let stops = c.in_err-left.ensures.stops k (ap Err why) in (
      stops.0,
      signed_expects c.args.tokens.now WordRule Colon
          (term_then most_nested (next (token Equals) (term_then most_nested nothing))) refl c.requires.begins c.in_ok-expect.ensures.there c.in_ok-expect-2.ensures.there
          ∙ stops.1 (next (token Equals) (term_then most_nested nothing)),
    )

pub returns-in_err-expect-3-clause-stops : goal.returns-in_err-expect-3-clause-stops
returns-in_err-expect-3-clause-stops c k is =
    let p = err_from_is_err_and c.from_residual-in_err-expect-3.result c.from_residual-in_err-expect-3.ensures.1 in
    let why : c.in_err-expect-3.field-0.0 ≡ Syntax k = cc (p.1, p.2) in
    let stops = c.in_err-expect-3.ensures.stops k (ap Err why) in (
      stops.0,
      signed_expects c.args.tokens.now WordRule Colon
          (term_then most_nested (next (token Equals) (term_then most_nested nothing))) refl c.requires.begins c.in_ok-expect.ensures.there c.in_ok-expect-2.ensures.there
          ∙ c.in_ok-left.ensures.passes (next (token Equals) (term_then most_nested nothing)) ∙ stops.1 (term_then most_nested nothing),
    )

pub returns-in_err-right-clause-stops : goal.returns-in_err-right-clause-stops
returns-in_err-right-clause-stops c k is =
    let p = err_from_is_err_and c.from_residual-in_err-right.result c.from_residual-in_err-right.ensures.1 in
    let why : c.in_err-right.field-0.0 ≡ Syntax k = cc (p.1, p.2) in
    let stops = c.in_err-right.ensures.stops k (ap Err why) in (
      stops.0,
      signed_expects c.args.tokens.now WordRule Colon
          (term_then most_nested (next (token Equals) (term_then most_nested nothing))) refl c.requires.begins c.in_ok-expect.ensures.there c.in_ok-expect-2.ensures.there
          ∙ c.in_ok-left.ensures.passes (next (token Equals) (term_then most_nested nothing))
          ∙ token_passes c.args.tokens.now c.in_ok-left.middle Equals (term_then most_nested nothing) c.in_ok-expect-3.ensures.there ∙ stops.1 (nothing),
    )

pub returns-in_err-expect_end-clause-stops : goal.returns-in_err-expect_end-clause-stops
returns-in_err-expect_end-clause-stops c k is =
    let p = err_from_is_err_and c.from_residual-in_err-expect_end.result c.from_residual-in_err-expect_end.ensures.1 in
    let why : c.in_err-expect_end.field-0.0 ≡ Syntax k = cc (p.1, p.2) in
    let stops = c.in_err-expect_end.ensures.stops k (ap Err why) in
    let there = more_than_nothing c.args.tokens.now c.in_ok-right.end k stops.0 stops.1 in (
      there.0,
      signed_expects c.args.tokens.now WordRule Colon
          (term_then most_nested (next (token Equals) (term_then most_nested nothing))) refl c.requires.begins c.in_ok-expect.ensures.there c.in_ok-expect-2.ensures.there
          ∙ c.in_ok-left.ensures.passes (next (token Equals) (term_then most_nested nothing))
          ∙ token_passes c.args.tokens.now c.in_ok-left.middle Equals (term_then most_nested nothing) c.in_ok-expect-3.ensures.there ∙ c.in_ok-right.ensures.passes nothing ∙ there.1,
    )

pub returns-clause-tree : goal.returns-clause-tree
returns-clause-tree c =
    let first : TermTree = tree_of c.in_ok-left.left in
    let second : TermTree = tree_of c.in_ok-right.right in
    rule_there c.args.tokens.now c.in_ok-left.middle c.in_ok-right.end first second c.requires.begins c.in_ok-expect.ensures.there c.in_ok-expect-2.ensures.there c.in_ok-left.ensures.read
    c.in_ok-expect-3.ensures.there c.in_ok-right.ensures.read c.in_ok-expect_end.ensures.there
