use Rattle.chyp_laws.proofs.OccurrenceContext.{occurrence_gives}
use Rattle.chyp_laws.proofs.occurrence_gives_context.Goals as goal

pub returns : goal.returns
returns c = occurrence_gives _ _ _ c.requires.rule c.requires.typed _ _ c.requires.occurs
