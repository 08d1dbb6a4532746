use Rattle.chyp_laws.proofs.Theorem.{isomorphic_derivation}
use Rattle.chyp_laws.proofs.same_gives_derivation.Goals as goal

pub returns : goal.returns
returns c = isomorphic_derivation _ _ c.requires.left c.requires.right c.requires.same
