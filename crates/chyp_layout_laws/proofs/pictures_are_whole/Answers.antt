use Rattle.chyp_layout_laws.proofs.Whole.{whole-kept}
use Rattle.chyp_layout_laws.proofs.pictures_are_whole.Goals as goal

pub returns : goal.returns
returns c = whole-kept
