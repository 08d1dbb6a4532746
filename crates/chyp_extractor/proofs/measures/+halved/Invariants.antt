use Rattle.std.proofs.Common.{length}
use Rattle.chyp_extractor.proofs.measures.+halved.Given as goal

abbrev pub decreases-halved : goal.decreases-halved
decreases-halved l = length l.parts.now
