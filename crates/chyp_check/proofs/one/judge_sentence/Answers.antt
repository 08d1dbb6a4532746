use Rattle.std.proofs.Common.{arith, sym, ap, subst, sum_by, None, Err}
use Rattle.chyp_term.specs.Measure.{size_of}
use Rattle.chyp_names.specs.Binding.{IsOutcome}
use Rattle.chyp_verdicts.specs.Judged.{IsJudged, refused}
use Rattle.chyp_check.proofs.Outcomes.{judged_sentence, passing_outcome, refused_outcome, rewrite_steps, terms_few}
use Rattle.chyp_verdicts.specs.Steps.{AreUsable}
use Rattle.chyp_verdicts.proofs.Cited.{reasons-usable}
use Rattle.chyp_check.proofs.one.judge_sentence.Goals as goal

pub returns-in-Err-Refused-clause-judged : goal.returns-in-Err-Refused-clause-judged
returns-in-Err-Refused-clause-judged c =
    let is = c.in-Err-Refused.ensures.refused c.in-Err-Refused.verdict (ap Err c.in-Err-Refused.field-0-is) in
    subst (IsJudged _) (sym c.in-Err-Refused.verdict-is) (refused c.requires.sentence is)

pub returns-in-Err-Refused-clause-outcome : goal.returns-in-Err-Refused-clause-outcome
returns-in-Err-Refused-clause-outcome c =
    let is = c.in-Err-Refused.ensures.refused c.in-Err-Refused.verdict (ap Err c.in-Err-Refused.field-0-is) in
    subst (IsOutcome _ None) (sym c.in-Err-Refused.verdict-is) (refused_outcome _ _ c.in-Err-Refused.verdict is)

pub returns-clause-judged : goal.returns-clause-judged
returns-clause-judged c = judged_sentence _ _ c.in-Ok.body c.in_ok-verdict.verdict c.requires.sentence c.in-Ok.ensures.passes c.in-Ok.ensures.body c.in_ok-verdict.ensures

pub returns-clause-outcome : goal.returns-clause-outcome
returns-clause-outcome c = passing_outcome _ _ c.in-Ok.body c.in_ok-verdict.verdict c.requires.sentence c.in-Ok.ensures.passes c.in-Ok.ensures.body c.in_ok-verdict.ensures

pub verdict_of-requires-clause-few : goal.verdict_of-requires-clause-few
verdict_of-requires-clause-few c =
    let few = terms_few c.in-Ok.body.terms in
    let same = ap (sum_by size_of) c.in-Ok.ensures.body.terms in
    let together = c.in-Ok.ensures.passes.small.together in
    omega arith

pub verdict_of-requires-clause-enough : goal.verdict_of-requires-clause-enough
verdict_of-requires-clause-enough c = rewrite_steps _ _ c.in-Ok.body c.in-Ok.ensures.body

pub verdict_of-requires-clause-usable : goal.verdict_of-requires-clause-usable
verdict_of-requires-clause-usable c = subst AreUsable (sym c.in-Ok.ensures.body.steps) (reasons-usable _ c.sound.ensures _ c.in-Ok.ensures.passes)
