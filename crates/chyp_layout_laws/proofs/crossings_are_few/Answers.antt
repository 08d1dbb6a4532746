use Rattle.chyp_layout_laws.proofs.Orders.{picture-few}
use Rattle.chyp_layout_laws.proofs.crossings_are_few.Goals as goal

pub returns : goal.returns
returns c = picture-few
