use Rattle.chyp_layout_laws.proofs.Overlap.{apart-drawn}
use Rattle.chyp_layout_laws.proofs.boxes_are_apart.Goals as goal

pub returns : goal.returns
returns c = apart-drawn
