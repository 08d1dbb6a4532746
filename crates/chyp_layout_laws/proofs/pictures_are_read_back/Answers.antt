use Rattle.chyp_layout_laws.proofs.Reading.{read-back, told-apart}
use Rattle.chyp_layout_laws.proofs.pictures_are_read_back.Goals as goal

pub returns-clause-back : goal.returns-clause-back
returns-clause-back c = read-back

pub returns-clause-apart : goal.returns-clause-apart
returns-clause-apart c = told-apart
