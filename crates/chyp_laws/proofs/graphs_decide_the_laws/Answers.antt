use Rattle.chyp_graph.proofs.Validity.{valid}
use Rattle.chyp_laws.proofs.Deciding.{laws-decided}
use Rattle.chyp_laws.proofs.Theorem.{derivation_isomorphic, isomorphic_derivation}
use Rattle.chyp_laws.proofs.graphs_decide_the_laws.Goals as goal

pub returns-clause-sound : goal.returns-clause-sound
returns-clause-sound c = derivation_isomorphic

pub returns-clause-complete : goal.returns-clause-complete
returns-clause-complete c = isomorphic_derivation

pub returns-clause-valid : goal.returns-clause-valid
returns-clause-valid c = valid

pub returns-clause-decided : goal.returns-clause-decided
returns-clause-decided c = laws-decided
