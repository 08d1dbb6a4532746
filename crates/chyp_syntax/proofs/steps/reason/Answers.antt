use Rattle.std.proofs.Common.{◌≡◌, ◌+◌, Err, ◌∙◌, ap, arith}
use Rattle.std.proofs.lemmas.Bool.{both_ways}
use Rattle.std.proofs.lemmas.Result.{err_from_is_err_and}
use Rattle.chyp_lex.specs.declared.token.TokenKind.TheVariants.{WordBy, WordSimp, RightParenthesis}
use Rattle.chyp_syntax.specs.declared.error.ParseError.TheVariants.{Syntax}
use Rattle.chyp_syntax.specs.Expected.{next, token, tail, reason_left, signed_left, signed}
use Rattle.chyp_syntax.specs.Beginning.{tokens_from}
use Rattle.chyp_syntax.proofs.Numbered.{within_kind}
use Rattle.chyp_syntax.proofs.Verdicts.{tail_skips, tail_passes, token_passes}
use Rattle.chyp_syntax.proofs.Pieces.{is_plain, is_rule_reason, is_simp_reason, reason_signed, simp_expects, simp_opened}
use Rattle.chyp_syntax.proofs.steps.reason.Goals as goal

pub returns-then-not-is_kind-clause-read : goal.returns-then-not-is_kind-clause-read
returns-then-not-is_kind-clause-read c = is_plain (tokens_from c.args.tokens.now c.args.at)

pub returns-then-not-is_kind-clause-passes : goal.returns-then-not-is_kind-clause-passes
returns-then-not-is_kind-clause-passes c e =
    tail_skips reason_left e (tokens_from c.args.tokens.now c.args.at) (λ begins. both_ways c.is_kind.result c.if-not-is_kind.true (c.is_kind.ensures.1 begins))

pub signed-requires-clause-within : goal.signed-requires-clause-within
signed-requires-clause-within c = omega (arith, within_kind c.args.tokens.now c.args.at WordBy (c.is_kind.ensures.0 c.if-not-is_kind.false))

pub returns-in_err-rule-clause-stops : goal.returns-in_err-rule-clause-stops
returns-in_err-rule-clause-stops c k is =
    let p = err_from_is_err_and c.from_residual.result c.from_residual.ensures.1 in
    let why : c.in_err-rule.field-0.0 ≡ Syntax k = cc (p.1, p.2) in
    let stops = c.in_err-rule.ensures.stops k (ap Err why) in
    let tokens = c.args.tokens.now in
    let at = c.args.at in (
      stops.0,
      λ e. tail_passes tokens at reason_left e (c.is_kind.ensures.0 c.if-not-is_kind.false)
          ∙ reason_signed e (tokens_from tokens (at + 1)) (λ begins. both_ways c.is_kind-2.result c.if-not-is_kind-2.true (c.is_kind-2.ensures.1 begins)) ∙ stops.1 e,
    )

pub returns-then-not-is_kind-2-clause-read : goal.returns-then-not-is_kind-2-clause-read
returns-then-not-is_kind-2-clause-read c =
    is_rule_reason c.args.tokens.now c.args.at c.in_ok-rule.end c.in_ok-rule.rule (c.is_kind.ensures.0 c.if-not-is_kind.false) c.in_ok-rule.ensures.read

pub returns-then-not-is_kind-2-clause-passes : goal.returns-then-not-is_kind-2-clause-passes
returns-then-not-is_kind-2-clause-passes c e =
    let tokens = c.args.tokens.now in
    let at = c.args.at in
    tail_passes tokens at reason_left e (c.is_kind.ensures.0 c.if-not-is_kind.false)
    ∙ reason_signed e (tokens_from tokens (at + 1)) (λ begins. both_ways c.is_kind-2.result c.if-not-is_kind-2.true (c.is_kind-2.ensures.1 begins)) ∙ c.in_ok-rule.ensures.passes e

pub expect-requires-clause-within : goal.expect-requires-clause-within
expect-requires-clause-within c = omega (arith, within_kind c.args.tokens.now (c.args.at + 1) WordSimp (c.is_kind-2.ensures.0 c.if-not-is_kind-2.false))

pub returns-in_err-expect-clause-stops : goal.returns-in_err-expect-clause-stops
returns-in_err-expect-clause-stops c k is =
    let p = err_from_is_err_and c.from_residual-in_err-expect.result c.from_residual-in_err-expect.ensures.1 in
    let why : c.in_err-expect.field-0.0 ≡ Syntax k = cc (p.1, p.2) in
    let stops = c.in_err-expect.ensures.stops k (ap Err why) in (
      stops.0,
      λ e. simp_expects c.args.tokens.now c.args.at e (c.is_kind.ensures.0 c.if-not-is_kind.false) (c.is_kind-2.ensures.0 c.if-not-is_kind-2.false)
          ∙ stops.1 (next signed (next (tail signed_left) (next (token RightParenthesis) e))),
    )

pub returns-in_err-rules-clause-stops : goal.returns-in_err-rules-clause-stops
returns-in_err-rules-clause-stops c k is =
    let p = err_from_is_err_and c.from_residual-in_err-rules.result c.from_residual-in_err-rules.ensures.1 in
    let why : c.in_err-rules.field-0.0 ≡ Syntax k = cc (p.1, p.2) in
    let stops = c.in_err-rules.ensures.stops k (ap Err why) in (
      stops.0,
      λ e. simp_opened c.args.tokens.now c.args.at e (c.is_kind.ensures.0 c.if-not-is_kind.false) (c.is_kind-2.ensures.0 c.if-not-is_kind-2.false) c.in_ok-expect.ensures.there
          ∙ stops.1 (next (token RightParenthesis) e),
    )

pub returns-in_err-expect-2-clause-stops : goal.returns-in_err-expect-2-clause-stops
returns-in_err-expect-2-clause-stops c k is =
    let p = err_from_is_err_and c.from_residual-in_err-expect-2.result c.from_residual-in_err-expect-2.ensures.1 in
    let why : c.in_err-expect-2.field-0.0 ≡ Syntax k = cc (p.1, p.2) in
    let stops = c.in_err-expect-2.ensures.stops k (ap Err why) in (
      stops.0,
      λ e. simp_opened c.args.tokens.now c.args.at e (c.is_kind.ensures.0 c.if-not-is_kind.false) (c.is_kind-2.ensures.0 c.if-not-is_kind-2.false) c.in_ok-expect.ensures.there
          ∙ c.in_ok-rules.ensures.passes (next (token RightParenthesis) e) ∙ stops.1 e,
    )

pub returns-clause-read : goal.returns-clause-read
returns-clause-read c =
    is_simp_reason c.args.tokens.now c.args.at c.in_ok-rules.end c.in_ok-rules.rules (c.is_kind.ensures.0 c.if-not-is_kind.false) (c.is_kind-2.ensures.0 c.if-not-is_kind-2.false)
    c.in_ok-expect.ensures.there c.in_ok-rules.ensures.read c.in_ok-expect-2.ensures.there

pub returns-clause-passes : goal.returns-clause-passes
returns-clause-passes c e =
    simp_opened c.args.tokens.now c.args.at e (c.is_kind.ensures.0 c.if-not-is_kind.false) (c.is_kind-2.ensures.0 c.if-not-is_kind-2.false) c.in_ok-expect.ensures.there
    ∙ c.in_ok-rules.ensures.passes (next (token RightParenthesis) e) ∙ token_passes c.args.tokens.now c.in_ok-rules.end RightParenthesis e c.in_ok-expect-2.ensures.there
