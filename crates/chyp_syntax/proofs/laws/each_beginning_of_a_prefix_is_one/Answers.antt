use Rattle.chyp_syntax.proofs.Failures.{are_prefixes_closed}
use Rattle.chyp_syntax.proofs.laws.each_beginning_of_a_prefix_is_one.Goals as goal

pub returns : goal.returns
returns c = are_prefixes_closed
