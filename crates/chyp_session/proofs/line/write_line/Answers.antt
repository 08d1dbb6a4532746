use Rattle.std.proofs.Common.{rules}
use Rattle.chyp_write.proofs.WritingLemmas.{writes-more, writes-part}
use Rattle.chyp_session.proofs.line.write_line.Goals as goal

pub returns-in_err-write_heading : goal.returns-in_err-write_heading
returns-in_err-write_heading g c = writes-part _ _ _ _ _ c.from_residual.result _ _ c.from_residual.ensures.0 c.in_err-write_heading.ensures

pub returns-in_err-write_outcome : goal.returns-in_err-write_outcome
returns-in_err-write_outcome g c = writes-more _ _ _ _ _ _ _ c.from_residual-in_err-write_outcome.result _ _ c.in_ok-write_heading.ensures
    (writes-part _ _ _ _ _ c.from_residual-in_err-write_outcome.result _ _ c.from_residual-in_err-write_outcome.ensures.0 c.in_err-write_outcome.ensures)

pub returns : goal.returns
returns g c = writes-more _ _ _ _ _ _ _ c.write_all.result _ _ c.in_ok-write_heading.ensures (writes-more _ _ _ _ _ _ _ c.write_all.result _ _ c.in_ok-write_outcome.ensures (search rules))
