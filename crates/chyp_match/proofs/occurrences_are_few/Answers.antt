use Rattle.chyp_pattern.proofs.Listed.{occurrences_listed}
use Rattle.chyp_match.proofs.Bounding.{occurrences_bounded}
use Rattle.chyp_match.proofs.occurrences_are_few.Goals as goal

pub returns-clause-listed : goal.returns-clause-listed
returns-clause-listed c = occurrences_listed

pub returns-clause-bounded : goal.returns-clause-bounded
returns-clause-bounded c = occurrences_bounded
