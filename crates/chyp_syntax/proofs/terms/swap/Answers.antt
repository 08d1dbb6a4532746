use Rattle.std.proofs.Common.{◌≡◌, ◌+◌, Err, None, Some, ◌∙◌, ap, arith}
use Rattle.std.proofs.lemmas.Bool.{both_ways}
use Rattle.std.proofs.lemmas.Result.{err_from_is_err_and}
use Rattle.chyp_lex.specs.declared.token.TokenKind.TheVariants.{LeftBracket, RightBracket}
use Rattle.chyp_syntax.specs.declared.error.ParseError.TheVariants.{Syntax}
use Rattle.chyp_syntax.specs.Expected.{next, token, places_left}
use Rattle.chyp_syntax.specs.Beginning.{tokens_from}
use Rattle.chyp_syntax.proofs.Numbered.{within_kind}
use Rattle.chyp_syntax.proofs.Numbers.{is_two_places, is_these_places, places_expect}
use Rattle.chyp_syntax.proofs.Trees.{tree_of-Swap}
use Rattle.chyp_syntax.proofs.Verdicts.{tail_skips, token_passes}
use Rattle.chyp_syntax.proofs.terms.swap.Goals as goal

pub returns-then-not-is_kind-clause-read : goal.returns-then-not-is_kind-clause-read
returns-then-not-is_kind-clause-read c = rw (tree_of-Swap c.args.at None) (is_two_places c.args.tokens.now c.args.at c.requires.begins)

pub returns-then-not-is_kind-clause-passes : goal.returns-then-not-is_kind-clause-passes
returns-then-not-is_kind-clause-passes c e =
    tail_skips places_left e (tokens_from c.args.tokens.now (c.args.at + 1)) (λ begins. both_ways c.is_kind.result c.if-not-is_kind.true (c.is_kind.ensures.1 begins))

pub numbers-requires-clause-within : goal.numbers-requires-clause-within
numbers-requires-clause-within c = omega (arith, within_kind c.args.tokens.now (c.args.at + 1) LeftBracket (c.is_kind.ensures.0 c.if-not-is_kind.false))

pub returns-in_err-numbers-clause-stops : goal.returns-in_err-numbers-clause-stops
returns-in_err-numbers-clause-stops c k is =
    let p = err_from_is_err_and c.from_residual.result c.from_residual.ensures.1 in
    let why : c.in_err-numbers.field-0.0 ≡ Syntax k = cc (p.1, p.2) in
    let stops = c.in_err-numbers.ensures.stops k (ap Err why) in
    (stops.0, λ e. places_expect c.args.tokens.now c.args.at e (c.is_kind.ensures.0 c.if-not-is_kind.false) ∙ stops.1 (next (token RightBracket) e))

pub returns-in_err-expect-clause-stops : goal.returns-in_err-expect-clause-stops
returns-in_err-expect-clause-stops c k is =
    let p = err_from_is_err_and c.from_residual-in_err-expect.result c.from_residual-in_err-expect.ensures.1 in
    let why : c.in_err-expect.field-0.0 ≡ Syntax k = cc (p.1, p.2) in
    let stops = c.in_err-expect.ensures.stops k (ap Err why) in (
      stops.0,
      λ e. places_expect c.args.tokens.now c.args.at e (c.is_kind.ensures.0 c.if-not-is_kind.false) ∙ c.in_ok-numbers.ensures.passes (next (token RightBracket) e) ∙ stops.1 e,
    )

pub returns-clause-read : goal.returns-clause-read
returns-clause-read c =
    rw (tree_of-Swap c.args.at (Some c.in_ok-numbers.numbers))
    (is_these_places c.args.tokens.now c.args.at c.in_ok-numbers.end c.in_ok-numbers.numbers c.requires.begins
    (c.is_kind.ensures.0 c.if-not-is_kind.false) c.in_ok-numbers.ensures.read c.in_ok-expect.ensures.there)

pub returns-clause-passes : goal.returns-clause-passes
returns-clause-passes c e =
    places_expect c.args.tokens.now c.args.at e (c.is_kind.ensures.0 c.if-not-is_kind.false) ∙ c.in_ok-numbers.ensures.passes (next (token RightBracket) e)
    ∙ token_passes c.args.tokens.now c.in_ok-numbers.end RightBracket e c.in_ok-expect.ensures.there
