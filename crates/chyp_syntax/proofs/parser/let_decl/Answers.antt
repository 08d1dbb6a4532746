use Rattle.std.proofs.Common.{◌≡◌, Err, refl, ◌∙◌, ap}
use Rattle.std.proofs.lemmas.Result.{err_from_is_err_and}
use Rattle.chyp_lex.specs.declared.token.TokenKind.TheVariants.{Ident, Equals, WordLet}
use Rattle.chyp_syntax.specs.declared.error.ParseError.TheVariants.{Syntax}
use Rattle.chyp_syntax.specs.Expected.{next, token, nothing, term_then}
use Rattle.chyp_syntax.specs.Sentence.{most_nested}
use Rattle.chyp_syntax.specs.Term.{TermTree, tree_of}
use Rattle.chyp_syntax.proofs.Pieces.{more_than_nothing}
use Rattle.chyp_syntax.proofs.Statements.{word_expects, named_expects, signed_expects, let_there}
use Rattle.chyp_syntax.proofs.parser.let_decl.Goals as goal

pub returns-in_err-expect-clause-stops : goal.returns-in_err-expect-clause-stops
returns-in_err-expect-clause-stops c k is =
    let p = err_from_is_err_and c.from_residual.result c.from_residual.ensures.1 in
    let why : c.in_err-expect.field-0.0 ≡ Syntax k = cc (p.1, p.2) in
    let stops = c.in_err-expect.ensures.stops k (ap Err why) in (
      stops.0,
      word_expects c.args.tokens.now WordLet (next (token Ident) (next (token Equals) (term_then most_nested nothing))) refl c.requires.begins
          ∙ stops.1 (next (token Equals) (term_then most_nested nothing)),
    )

pub returns-in_err-expect-2-clause-stops : goal.returns-in_err-expect-2-clause-stops
returns-in_err-expect-2-clause-stops c k is =
    let p = err_from_is_err_and c.from_residual-in_err-expect-2.result c.from_residual-in_err-expect-2.ensures.1 in
    let why : c.in_err-expect-2.field-0.0 ≡ Syntax k = cc (p.1, p.2) in
    let stops = c.in_err-expect-2.ensures.stops k (ap Err why) in
    (stops.0, named_expects c.args.tokens.now WordLet Equals (term_then most_nested nothing) refl c.requires.begins c.in_ok-expect.ensures.there ∙ stops.1 (term_then most_nested nothing))

pub returns-in_err-term-clause-stops : goal.returns-in_err-term-clause-stops
returns-in_err-term-clause-stops c k is =
    let p = err_from_is_err_and c.from_residual-in_err-term.result c.from_residual-in_err-term.ensures.1 in
    let why : c.in_err-term.field-0.0 ≡ Syntax k = cc (p.1, p.2) in
    let stops = c.in_err-term.ensures.stops k (ap Err why) in
    (stops.0, signed_expects c.args.tokens.now WordLet Equals (term_then most_nested nothing) refl c.requires.begins c.in_ok-expect.ensures.there c.in_ok-expect-2.ensures.there ∙ stops.1 (nothing))

pub returns-in_err-expect_end-clause-stops : goal.returns-in_err-expect_end-clause-stops
returns-in_err-expect_end-clause-stops c k is =
    let p = err_from_is_err_and c.from_residual-in_err-expect_end.result c.from_residual-in_err-expect_end.ensures.1 in
    let why : c.in_err-expect_end.field-0.0 ≡ Syntax k = cc (p.1, p.2) in
    let stops = c.in_err-expect_end.ensures.stops k (ap Err why) in
    let there = more_than_nothing c.args.tokens.now c.in_ok-term.end k stops.0 stops.1 in (
      there.0,
      signed_expects c.args.tokens.now WordLet Equals (term_then most_nested nothing) refl c.requires.begins c.in_ok-expect.ensures.there c.in_ok-expect-2.ensures.there
          ∙ c.in_ok-term.ensures.passes nothing ∙ there.1,
    )

pub returns-clause-tree : goal.returns-clause-tree
returns-clause-tree c =
    let tree : TermTree = tree_of c.in_ok-term.term in
    let_there c.args.tokens.now c.in_ok-term.end tree c.requires.begins c.in_ok-expect.ensures.there c.in_ok-expect-2.ensures.there c.in_ok-term.ensures.read c.in_ok-expect_end.ensures.there
