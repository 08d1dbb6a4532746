use Rattle.std.proofs.Common.{◌≡◌, ◌+◌, ◌-◌, suc, Some, slice_get, sym, ap, subst, ◌∙◌, arith}
use Rattle.chyp_term.specs.Step.{reason_of, reasons_of}
use Rattle.chyp_judge.specs.Judged.{IsJudgement}
use Rattle.chyp_verdicts.specs.Steps.{AreGood, moves_of, refusal_at}
use Rattle.chyp_check.proofs.StepLists.{good-more, item-at, judged-at, move-at, no-refusal, reason-at}
use Rattle.chyp_check.proofs.steps.first_refused.Goals as goal

pub judged-requires-clause-step : goal.judged-requires-clause-step
judged-requires-clause-step c =
    let terms = c.args.terms.now in
    let steps = c.args.steps.now in
    let at = c.loop-at.at in
    let enough = c.requires.enough in
    let s = c.index-terms-at.result in
    let t = c.index-terms-at-in-loop-at.result in
    let from = item-at terms (at - 1) s (omega (arith, c.loop-at-test.true)) c.index-terms-at.is in
    let to = item-at terms at t c.loop-at-test.true c.index-terms-at-in-loop-at.is in
    let step = item-at steps (at - 1) c.index-steps-at.result (omega (arith, c.loop-at-test.true, c.loop-at.auto.at)) c.index-steps-at.is in
    let next : suc (at - 1) ≡ at = omega (arith, c.loop-at.auto.at) in
    let reason = reason-at steps (at - 1) c.index-steps-at.result step in
    judged-at (reasons_of steps) (at - 1) (reason_of c.index-steps-at.result) c.requires.usable reason

pub returns-in-Some-clause-some : goal.returns-in-Some-clause-some
returns-in-Some-clause-some c =
    let terms = c.args.terms.now in
    let steps = c.args.steps.now in
    let at = c.loop-at.at in
    let enough = c.requires.enough in
    let s = c.index-terms-at.result in
    let t = c.index-terms-at-in-loop-at.result in
    let from = item-at terms (at - 1) s (omega (arith, c.loop-at-test.true)) c.index-terms-at.is in
    let to = item-at terms at t c.loop-at-test.true c.index-terms-at-in-loop-at.is in
    let step = item-at steps (at - 1) c.index-steps-at.result (omega (arith, c.loop-at-test.true, c.loop-at.auto.at)) c.index-steps-at.is in
    let next : suc (at - 1) ≡ at = omega (arith, c.loop-at.auto.at) in
    let number : at - 1 + 1 ≡ at = omega (arith, c.loop-at.auto.at) in
    let reason = reason-at steps (at - 1) c.index-steps-at.result step in
    record {
      k = at - 1;
      move = record { reason = reason_of c.index-steps-at.result; from = s; to = t };
      judged = c.in_ok-judged.judged;
      front = c.loop-at.invariant;
      there = move-at terms (reasons_of steps) (at - 1) (reason_of c.index-steps-at.result) s t reason from (subst (λ n. slice_get terms n ≡ Some t) (sym next) to);
      judgement = c.in_ok-judged.ensures;
      refuses = ap (λ n. refusal_at n c.in_ok-judged.judged) number ∙ sym c.refusal_at.ensures ∙ c.in-Some.is;
    }

pub loop-at-preserved : goal.loop-at-preserved
loop-at-preserved c =
    let terms = c.args.terms.now in
    let steps = c.args.steps.now in
    let at = c.loop-at.at in
    let enough = c.requires.enough in
    let s = c.index-terms-at.result in
    let t = c.index-terms-at-in-loop-at.result in
    let from = item-at terms (at - 1) s (omega (arith, c.loop-at-test.true)) c.index-terms-at.is in
    let to = item-at terms at t c.loop-at-test.true c.index-terms-at-in-loop-at.is in
    let step = item-at steps (at - 1) c.index-steps-at.result (omega (arith, c.loop-at-test.true, c.loop-at.auto.at)) c.index-steps-at.is in
    let next : suc (at - 1) ≡ at = omega (arith, c.loop-at.auto.at) in
    let end : suc (at - 1) ≡ at + 1 - 1 = omega (arith, c.loop-at.auto.at) in
    let reason = reason-at steps (at - 1) c.index-steps-at.result step in
    let move = move-at terms (reasons_of steps) (at - 1) (reason_of c.index-steps-at.result) s t reason from (subst (λ n. slice_get terms n ≡ Some t) (sym next) to) in
    let good = no-refusal at c.in_ok-judged.judged (sym c.refusal_at.ensures ∙ c.in_default.is) in
    subst (AreGood (moves_of terms (reasons_of steps))) end
    (good-more (moves_of terms (reasons_of steps)) (at - 1) _ c.loop-at.invariant move (subst (IsJudgement (reason_of c.index-steps-at.result) s t) good c.in_ok-judged.ensures))
