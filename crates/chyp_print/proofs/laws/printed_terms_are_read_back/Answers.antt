use Rattle.chyp_print.proofs.Back.{printed-back}
use Rattle.chyp_print.proofs.Bound.{names-mean}
use Rattle.chyp_print.proofs.laws.printed_terms_are_read_back.Goals as goal

pub returns-clause-back : goal.returns-clause-back
returns-clause-back c = printed-back

pub returns-clause-names : goal.returns-clause-names
returns-clause-names c = names-mean
