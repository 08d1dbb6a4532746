use Rattle.std.proofs.Common.{◌-◌, length, IfNone, IfSome, ap, arith, sym, subst, ◌∙◌}
use Rattle.chyp_term.specs.Step.{reasons_of}
use Rattle.chyp_verdicts.specs.Steps.{AreGood, StopsWith, is_open, moves_of, proved, stops, unfinished}
use Rattle.chyp_check.proofs.StepLists.{length-moves, length-reasons}
use Rattle.chyp_check.proofs.steps.verdict_on_steps.Goals as goal

pub returns-in-Some : goal.returns-in-Some
returns-in-Some c =
    let moves = moves_of c.as_slice-terms.result.now (reasons_of c.as_slice-steps.result.now) in
    let found = subst (λ found. IfSome found (λ verdict. StopsWith moves verdict)) c.in-Some.is c.in_ok-verdict.ensures.some in
    rw (sym c.as_slice-terms.ensures) (rw (sym c.as_slice-steps.ensures) (stops found))

pub returns-in-None : goal.returns-in-None
returns-in-None c =
    let terms = c.as_slice-terms.result.now in
    let moves = moves_of terms (reasons_of c.as_slice-steps.result.now) in
    let good = subst (λ found. IfNone found (AreGood moves (length terms - 1))) c.in-None.is c.in_ok-verdict.ensures.none in
    let few = length-reasons c.as_slice-steps.result.now in
    let enough = c.requires.enough in
    let same = ap length c.as_slice-terms.ensures in
    let alike = ap length c.as_slice-steps.ensures in
    let many = length-moves terms (reasons_of c.as_slice-steps.result.now) (omega arith) in
    let open' = ap (λ steps. is_open (reasons_of steps) c.args.body.now.hole) c.as_slice-steps.ensures ∙ sym c.is_open.ensures ∙ c.if-is_open.true in
    rw (sym c.as_slice-terms.ensures) (rw (sym c.as_slice-steps.ensures) (unfinished (subst (AreGood moves) (sym many) good) open'))

pub returns-in-None-2 : goal.returns-in-None-2
returns-in-None-2 c =
    let terms = c.as_slice-terms.result.now in
    let moves = moves_of terms (reasons_of c.as_slice-steps.result.now) in
    let good = subst (λ found. IfNone found (AreGood moves (length terms - 1))) c.in-None-2.is c.in_ok-verdict.ensures.none in
    let few = length-reasons c.as_slice-steps.result.now in
    let enough = c.requires.enough in
    let same = ap length c.as_slice-terms.ensures in
    let alike = ap length c.as_slice-steps.ensures in
    let many = length-moves terms (reasons_of c.as_slice-steps.result.now) (omega arith) in
    let closed = ap (λ steps. is_open (reasons_of steps) c.args.body.now.hole) c.as_slice-steps.ensures ∙ sym c.is_open.ensures ∙ c.if-is_open.false in
    rw (sym c.as_slice-terms.ensures) (rw (sym c.as_slice-steps.ensures) (proved (subst (AreGood moves) (sym many) good) closed))
