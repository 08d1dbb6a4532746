use Rattle.std.proofs.Common.{sym}
use Rattle.chyp_app.proofs.ReportLemmas.{shown-utf8}
use Rattle.chyp_app.proofs.report.name_of.Goals as goal

pub unreachable-requires : goal.unreachable-requires
unreachable-requires c =
    c.in-Err.ensures.cases.0 (shown-utf8 c.args.text.now c.args.statement.now c.in-Some.bytes.now c.requires.names (sym c.in-Some.ensures))
