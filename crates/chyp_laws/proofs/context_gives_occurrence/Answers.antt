use Rattle.chyp_laws.proofs.Context.{context_occurrence}
use Rattle.chyp_laws.proofs.context_gives_occurrence.Goals as goal

pub returns : goal.returns
returns c = context_occurrence _ _ _ _ c.requires.rule c.requires.rewrites
