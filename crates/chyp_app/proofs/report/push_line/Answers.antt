use Rattle.std.proofs.Common.{length, arith}
use Rattle.chyp_syntax.proofs.Spans.{starts_after_first, starts_within}
use Rattle.chyp_app.proofs.report.push_line.Goals as goal

pub moved_on-at-requires-clause-order : goal.moved_on-at-requires-clause-order
moved_on-at-requires-clause-order c =
    let h = starts_after_first (length c.args.text.now) c.unwrap_or.result c.args.statement.now c.requires.order in omega arith

pub moved_on-at-requires-clause-within : goal.moved_on-at-requires-clause-within
moved_on-at-requires-clause-within c =
    let h = starts_within (length c.args.text.now) c.unwrap_or.result c.args.statement.now c.requires.order in omega arith
