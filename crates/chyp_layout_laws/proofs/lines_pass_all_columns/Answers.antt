use Rattle.chyp_layout_laws.proofs.Lines.{lines-kept, points-kept}
use Rattle.chyp_layout_laws.proofs.lines_pass_all_columns.Goals as goal

pub returns-clause-lines : goal.returns-clause-lines
returns-clause-lines c = lines-kept

pub returns-clause-points : goal.returns-clause-points
returns-clause-points c = points-kept
