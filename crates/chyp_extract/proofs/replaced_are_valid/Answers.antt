use Rattle.chyp_extract.proofs.ReplacedValid.{replaced_types, replaced_valid}
use Rattle.chyp_extract.proofs.replaced_are_valid.Goals as goal

pub returns-clause-valid : goal.returns-clause-valid
returns-clause-valid c = replaced_valid

pub returns-clause-types : goal.returns-clause-types
returns-clause-types c = replaced_types
