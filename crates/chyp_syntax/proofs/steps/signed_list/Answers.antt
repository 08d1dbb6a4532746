use Rattle.std.proofs.Common.{[], refl, arith}
use Rattle.std.proofs.lemmas.Bool.{both_ways}
use Rattle.chyp_lex.specs.declared.token.TokenKind.TheVariants.{Comma}
use Rattle.chyp_syntax.specs.Expected.{next, signed, signed_left}
use Rattle.chyp_syntax.specs.Sentence.{IsSigned, AreSigned, one_signed, more_signed}
use Rattle.chyp_syntax.proofs.Numbered.{within_kind}
use Rattle.chyp_syntax.proofs.Separated.{so_far_more, so_far_last, again_more, again_last}
use Rattle.chyp_syntax.proofs.steps.signed_list.Goals as goal

pub returns-then-not-is_kind-clause-read : goal.returns-then-not-is_kind-clause-read
returns-then-not-is_kind-clause-read c =
    let last = so_far_last IsSigned (λ xs ts _. AreSigned xs ts) Comma (λ _. []) (λ a t is. one_signed is) (λ a b x t ts ms is k more. more_signed x is k more)
    c.args.tokens.now c.args.start c.loop-rules.at c.in_ok-rule.end c.loop-rules.rules [] c.in_ok-rule.rule c.loop-rules.invariant.so_far c.in_ok-rule.ensures.read in
    rw (c.in_ok-push.ensures.ok) last

pub returns-then-not-is_kind-clause-passes : goal.returns-then-not-is_kind-clause-passes
returns-then-not-is_kind-clause-passes c =
    again_last (next signed) signed_left (λ e. refl) c.args.tokens.now c.args.start c.loop-rules.at c.in_ok-rule.end c.loop-rules.invariant.again c.in_ok-rule.ensures.passes
    (λ begins. both_ways c.is_kind.result c.if-not-is_kind.true (c.is_kind.ensures.1 begins))

pub loop-rules-preserved : goal.loop-rules-preserved
loop-rules-preserved c =
    let comma = c.is_kind.ensures.0 c.if-not-is_kind.false in
    let within = c.in_ok-rule.ensures.within in
    let more_there = within_kind c.args.tokens.now c.in_ok-rule.end Comma comma in
    let more = so_far_more IsSigned (λ xs ts _. AreSigned xs ts) Comma (λ _. []) (λ a t is. one_signed is) (λ a b x t ts ms is k more. more_signed x is k more)
    c.args.tokens.now c.args.start c.loop-rules.at c.in_ok-rule.end c.loop-rules.rules [] c.in_ok-rule.rule c.loop-rules.invariant.so_far c.in_ok-rule.ensures.read comma in
    record {
      within = (omega arith, omega arith);
      so_far = rw (c.in_ok-push.ensures.ok) more;
      again = again_more (next signed) signed_left (λ e. refl) c.args.tokens.now c.args.start c.loop-rules.at c.in_ok-rule.end c.loop-rules.invariant.again c.in_ok-rule.ensures.passes comma;
    }
