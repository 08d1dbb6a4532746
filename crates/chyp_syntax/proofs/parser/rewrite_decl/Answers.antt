use Rattle.std.proofs.Common.{◌≡◌, map, Err, refl, ◌∙◌, ap}
use Rattle.std.proofs.lemmas.Result.{err_from_is_err_and}
use Rattle.chyp_lex.specs.declared.token.TokenKind.TheVariants.{Ident, Colon, WordRewrite}
use Rattle.chyp_syntax.specs.declared.error.ParseError.TheVariants.{Syntax}
use Rattle.chyp_syntax.specs.Expected.{next, token, steps, term_then}
use Rattle.chyp_syntax.specs.Sentence.{most_nested}
use Rattle.chyp_syntax.specs.Step.{step_of}
use Rattle.chyp_syntax.specs.Term.{TermTree, tree_of}
use Rattle.chyp_syntax.proofs.Statements.{word_expects, named_expects, signed_expects, rewrite_there}
use Rattle.chyp_syntax.proofs.parser.rewrite_decl.Goals as goal

pub returns-in_err-expect-clause-stops : goal.returns-in_err-expect-clause-stops
returns-in_err-expect-clause-stops c k is =
    let p = err_from_is_err_and c.from_residual.result c.from_residual.ensures.1 in
    let why : c.in_err-expect.field-0.0 ≡ Syntax k = cc (p.1, p.2) in
    let stops = c.in_err-expect.ensures.stops k (ap Err why) in (
      stops.0,
      word_expects c.args.tokens.now WordRewrite (next (token Ident) (next (token Colon) (term_then most_nested steps))) refl c.requires.begins
          ∙ stops.1 (next (token Colon) (term_then most_nested steps)),
    )

pub returns-in_err-expect-2-clause-stops : goal.returns-in_err-expect-2-clause-stops
returns-in_err-expect-2-clause-stops c k is =
    let p = err_from_is_err_and c.from_residual-in_err-expect-2.result c.from_residual-in_err-expect-2.ensures.1 in
    let why : c.in_err-expect-2.field-0.0 ≡ Syntax k = cc (p.1, p.2) in
    let stops = c.in_err-expect-2.ensures.stops k (ap Err why) in
    (stops.0, named_expects c.args.tokens.now WordRewrite Colon (term_then most_nested steps) refl c.requires.begins c.in_ok-expect.ensures.there ∙ stops.1 (term_then most_nested steps))

pub returns-in_err-first-clause-stops : goal.returns-in_err-first-clause-stops
returns-in_err-first-clause-stops c k is =
    let p = err_from_is_err_and c.from_residual-in_err-first.result c.from_residual-in_err-first.ensures.1 in
    let why : c.in_err-first.field-0.0 ≡ Syntax k = cc (p.1, p.2) in
    let stops = c.in_err-first.ensures.stops k (ap Err why) in
    (stops.0, signed_expects c.args.tokens.now WordRewrite Colon (term_then most_nested steps) refl c.requires.begins c.in_ok-expect.ensures.there c.in_ok-expect-2.ensures.there ∙ stops.1 (steps))

pub returns-in_err-steps-clause-stops : goal.returns-in_err-steps-clause-stops
returns-in_err-steps-clause-stops c k is =
    let p = err_from_is_err_and c.from_residual-in_err-steps.result c.from_residual-in_err-steps.ensures.1 in
    let why : c.in_err-steps.field-0.0 ≡ Syntax k = cc (p.1, p.2) in
    let stops = c.in_err-steps.ensures.stops k (ap Err why) in (
      stops.0,
      signed_expects c.args.tokens.now WordRewrite Colon (term_then most_nested steps) refl c.requires.begins c.in_ok-expect.ensures.there c.in_ok-expect-2.ensures.there
          ∙ c.in_ok-first.ensures.passes steps ∙ stops.1,
    )

pub returns-clause-tree : goal.returns-clause-tree
returns-clause-tree c =
    let first : TermTree = tree_of c.in_ok-first.first in
    rewrite_there c.args.tokens.now c.in_ok-first.end first
    (map step_of c.in_ok-steps.steps) c.requires.begins c.in_ok-expect.ensures.there c.in_ok-expect-2.ensures.there c.in_ok-first.ensures.read c.in_ok-steps.ensures.read
