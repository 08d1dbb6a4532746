use Rattle.std.proofs.Common.{sym}
use Rattle.chyp_layout.proofs.Sweeping.{last-of_get}
use Rattle.chyp_layout.proofs.sweep.last_or.Goals as goal

pub returns-in-Some : goal.returns-in-Some
returns-in-Some c = sym (last-of_get c.args.rim.now c.args.columns.now c.in-Some.column.now (sym c.in-Some.ensures.value))
