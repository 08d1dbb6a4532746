use Rattle.std.proofs.Common.{◌≡◌, ◌+◌, [], ◌∷◌, ◌++◌, refl, subst, arith}
use Rattle.std.proofs.lemmas.Bool.{both_ways}
use Rattle.chyp_lex.specs.declared.token.TokenKind.TheVariants.{Comma, Number}
use Rattle.chyp_syntax.specs.Expected.{next, token, tail, numbers_left}
use Rattle.chyp_syntax.specs.Beginning.{tokens_from}
use Rattle.chyp_syntax.specs.Sentence.{AreNumbers}
use Rattle.chyp_syntax.proofs.Numbered.{number_kind, within_kind}
use Rattle.chyp_syntax.proofs.Numbers.{IsNumber, numbers_one, numbers_more, a_number}
use Rattle.chyp_syntax.proofs.Verdicts.{token_passes}
use Rattle.chyp_syntax.proofs.Separated.{SoFar, so_far_more, so_far_last, Again, again_more, again_last}
use Rattle.chyp_syntax.proofs.terms.numbers.Goals as goal

pub returns-then-not-is_kind-clause-read : goal.returns-then-not-is_kind-clause-read
returns-then-not-is_kind-clause-read c =
    let last = so_far_last IsNumber (λ xs ts _. AreNumbers xs ts) Comma (λ _. []) numbers_one numbers_more
    c.args.tokens.now c.args.start c.loop-values.at (c.loop-values.at + 1) c.loop-values.values [] c.in_ok-value.value c.loop-values.invariant.so_far
    (a_number c.args.tokens.now c.loop-values.at c.in_ok-value.value c.in_ok-value.ensures.there) in
    rw (c.in_ok-push.ensures.ok) last

pub returns-then-not-is_kind-clause-passes : goal.returns-then-not-is_kind-clause-passes
returns-then-not-is_kind-clause-passes c =
    again_last (next (token Number)) numbers_left (λ e. refl) c.args.tokens.now c.args.start c.loop-values.at (c.loop-values.at + 1) c.loop-values.invariant.again
    (λ e. token_passes c.args.tokens.now c.loop-values.at Number e (number_kind c.in_ok-value.value (tokens_from c.args.tokens.now c.loop-values.at) c.in_ok-value.ensures.there))
    (λ begins. both_ways c.is_kind.result c.if-not-is_kind.true (c.is_kind.ensures.1 begins))

pub loop-values-preserved : goal.loop-values-preserved
loop-values-preserved c =
    let tokens = c.args.tokens.now in
    let start = c.args.start in
    let at = c.loop-values.at in
    let comma = c.is_kind.ensures.0 c.if-not-is_kind.false in
    let two : at + 1 + 1 ≡ at + 2 = omega arith in
    let more = so_far_more IsNumber (λ xs ts _. AreNumbers xs ts) Comma (λ _. []) numbers_one numbers_more
    tokens start at (at + 1) c.loop-values.values [] c.in_ok-value.value c.loop-values.invariant.so_far (a_number tokens at c.in_ok-value.value c.in_ok-value.ensures.there) comma in
    let again = again_more (next (token Number)) numbers_left (λ e. refl) tokens start at (at + 1) c.loop-values.invariant.again
    (λ e. token_passes tokens at Number e (number_kind c.in_ok-value.value (tokens_from tokens at) c.in_ok-value.ensures.there)) comma in
    let within = within_kind tokens (at + 1) Comma comma in
    record {
      within = (omega arith, omega arith);
      so_far = rw (c.in_ok-push.ensures.ok)
          (subst (λ n. SoFar (λ xs ts _. AreNumbers xs ts) (tokens_from tokens start) (tokens_from tokens n) (c.loop-values.values ++ c.in_ok-value.value ∷ []) []) two more);
      again = subst (λ n. Again (λ e. next (token Number) (next (tail numbers_left) e)) tokens start n) two again;
    }
