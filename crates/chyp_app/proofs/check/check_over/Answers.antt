use Rattle.std.proofs.Common.{◌+◌, ◌≤◌, length, ap, subst, arith}
use Rattle.chyp_load.specs.Statements.{CutText, IsCut}
use Rattle.chyp_modules.specs.Library.{library_of}
use Rattle.chyp_app.proofs.CheckLemmas.{verdicts-many}
use Rattle.chyp_app.proofs.check.check_over.Goals as goal
use Rattle.chyp_check.proofs.Outcomes.{on_err}

pub report-requires : goal.report-requires
report-requires g c =
    let cut : CutText = c.args.main.now in
    let is : IsCut cut = subst IsCut c.statements-statements.ensures c.cut.ensures in
    let many = verdicts-many c.every_text_has_one_token_list.ensures c.each_text_has_one_list_of_chunks.ensures (library_of c.args.modules.now)
    cut.text cut.tokens cut.chunks c.in_ok-verdicts.verdicts is.tokens is.chunks c.in_ok-verdicts.ensures.verdicts in
    let shown = ap length c.as_slice.ensures in
    let kept = ap (λ (k : CutText). length k.chunks) c.statements-statements.ensures in
    omega arith

pub returns-in_err-report-clause-no_more : goal.returns-in_err-report-clause-no_more
returns-in_err-report-clause-no_more g c n h =
    let e = c.in_ok-verdicts.ensures.steps n h in
    on_err c.from_residual-in_err-report.result (c.check_main.new.steps ≤ c.args.steps.now + n) (omega arith)

pub returns-clause-report : goal.returns-clause-report
returns-clause-report g c =
    let cut : CutText = c.args.main.now in
    let is : IsCut cut = subst IsCut c.statements-statements.ensures c.cut.ensures in
    record {
      tokens = cut.tokens;
      chunks = cut.chunks;
      verdicts = c.in_ok-verdicts.verdicts;
      are_tokens = is.tokens;
      are_chunks = is.chunks;
      are_verdicts = c.in_ok-verdicts.ensures.verdicts;
      says = rw (c.statements-statements.ensures, c.as_slice.ensures) at c.in_ok-report.ensures;
      ends = rw c.as_slice-2.ensures at c.status_of-status.ensures.same;
    }
