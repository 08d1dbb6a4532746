use Rattle.chyp_laws.proofs.Theorem.{derivation_isomorphic}
use Rattle.chyp_laws.proofs.derivation_gives_same.Goals as goal

pub returns : goal.returns
returns c = derivation_isomorphic _ _ c.requires
