use Rattle.std.proofs.Common.{◌≡◌, ◌+◌, Err, ◌∙◌, ap, subst, arith}
use Rattle.std.proofs.lemmas.Bool.{both_ways}
use Rattle.std.proofs.lemmas.Result.{err_from_is_err_and}
use Rattle.chyp_lex.specs.declared.token.TokenKind.TheVariants.{Minus}
use Rattle.chyp_syntax.specs.declared.error.ParseError.TheVariants.{Syntax}
use Rattle.chyp_syntax.specs.Expected.{next, name, verdict, stopped}
use Rattle.chyp_syntax.specs.Beginning.{tokens_from, BeginsWithName}
use Rattle.chyp_syntax.specs.Reads.{Stops}
use Rattle.chyp_syntax.proofs.Numbered.{token_there}
use Rattle.chyp_syntax.proofs.Pieces.{signed_minus, signed_unsigned, is_forwards, is_backwards, name_passes}
use Rattle.chyp_syntax.proofs.steps.signed.Goals as goal
use Rattle.chyp_syntax.proofs.steps.signed.Goals.{then-minus, else-minus}

pub expect_name-requires-clause-within : goal.expect_name-requires-clause-within
expect_name-requires-clause-within c =
    let within = c.requires.within in
    elim c.if-minus.branch [
      | then-minus w ↦ let h = token_there c.args.tokens.now c.args.at Minus (c.is_kind-minus.ensures.0 w.if-minus.true) in omega (arith, h.1)
      | else-minus w ↦ omega arith
    ]

pub returns-in_err-expect_name-clause-stops : goal.returns-in_err-expect_name-clause-stops
returns-in_err-expect_name-clause-stops c k is =
    let p = err_from_is_err_and c.from_residual.result c.from_residual.ensures.1 in
    let why : c.in_err-expect_name.field-0.0 ≡ Syntax k = cc (p.1, p.2) in
    let stops : Stops (next name) c.args.tokens.now c.if-minus.spot k = c.in_err-expect_name.ensures.stops k (ap Err why) in
    elim c.if-minus.branch [
      | then-minus w ↦ (
        stops.0,
        λ e. signed_minus c.args.tokens.now c.args.at e (c.is_kind-minus.ensures.0 w.if-minus.true)
            ∙ subst (λ n. verdict (next name e) (tokens_from c.args.tokens.now n) ≡ stopped (tokens_from c.args.tokens.now k)) w.spot-is (stops.1 e),
      )
      | else-minus w ↦ (
        stops.0,
        λ e. signed_unsigned e (tokens_from c.args.tokens.now c.args.at) (λ begins. both_ways c.is_kind-minus.result w.if-minus.false (c.is_kind-minus.ensures.1 begins))
            ∙ subst (λ n. verdict (next name e) (tokens_from c.args.tokens.now n) ≡ stopped (tokens_from c.args.tokens.now k)) w.spot-is (stops.1 e),
      )
    ]

pub returns-clause-read : goal.returns-clause-read
returns-clause-read c =
    let tokens = c.args.tokens.now in
    elim c.if-minus.branch [
      | then-minus w ↦
          let begins = subst (λ n. BeginsWithName (tokens_from tokens n)) w.spot-is c.in_ok-expect_name.ensures.there in
          rw (w.spot-is, w.if-minus.true) (is_backwards tokens c.args.at (c.is_kind-minus.ensures.0 w.if-minus.true) begins)
      | else-minus w ↦
          let begins = subst (λ n. BeginsWithName (tokens_from tokens n)) w.spot-is c.in_ok-expect_name.ensures.there in
          rw (w.spot-is, w.if-minus.false) (is_forwards tokens c.args.at begins)
    ]

pub returns-clause-passes : goal.returns-clause-passes
returns-clause-passes c e =
    let tokens = c.args.tokens.now in
    let passes = name_passes tokens c.if-minus.spot e c.in_ok-expect_name.ensures.there in
    elim c.if-minus.branch [
      | then-minus w ↦
          signed_minus tokens c.args.at e (c.is_kind-minus.ensures.0 w.if-minus.true)
          ∙ subst (λ n. verdict (next name e) (tokens_from tokens n) ≡ verdict e (tokens_from tokens (c.if-minus.spot + 1))) w.spot-is passes
      | else-minus w ↦
          signed_unsigned e (tokens_from tokens c.args.at) (λ begins. both_ways c.is_kind-minus.result w.if-minus.false (c.is_kind-minus.ensures.1 begins))
          ∙ subst (λ n. verdict (next name e) (tokens_from tokens n) ≡ verdict e (tokens_from tokens (c.if-minus.spot + 1))) w.spot-is passes
    ]
