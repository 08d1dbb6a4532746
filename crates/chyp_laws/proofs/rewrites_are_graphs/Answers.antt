use Rattle.chyp_laws.proofs.OccurrenceContext as T
use Rattle.chyp_laws.proofs.RewritingDecided.{rewrites_decided}
use Rattle.chyp_laws.proofs.rewrites_are_graphs.Goals as goal

pub returns-clause-exact : goal.returns-clause-exact
returns-clause-exact c = T.rewrites_are_graphs

pub returns-clause-decided : goal.returns-clause-decided
returns-clause-decided c = rewrites_decided
