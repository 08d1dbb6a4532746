use Rattle.std.proofs.Common.{Err, ap, sym, subst}
use Rattle.chyp_base.specs.declared.verdict.Verdict.TheVariants.{Syntax}
use Rattle.chyp_verdicts.specs.Judged.{IsJudged, no_sentence}
use Rattle.chyp_check.specs.Inputs.{site_at}
use Rattle.chyp_check.proofs.one.judge_statement.Goals as goal

pub returns-in-Err-Syntax-clause-judged : goal.returns-in-Err-Syntax-clause-judged
returns-in-Err-Syntax-clause-judged c =
    let fails = c.in-Err-Syntax.ensures.syntax c.in-Err-Syntax.token (ap Err c.in-Err-Syntax.field-0-is) in
    subst (λ k. IsJudged (site_at c.args.inputs.now) (Syntax k)) (sym c.in-Err-Syntax.token-is) (no_sentence fails)
