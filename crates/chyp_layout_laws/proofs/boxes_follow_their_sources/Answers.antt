use Rattle.chyp_layout_laws.proofs.Layering.{columns-drawn, follows-drawn}
use Rattle.chyp_layout_laws.proofs.boxes_follow_their_sources.Goals as goal

pub returns-clause-columns : goal.returns-clause-columns
returns-clause-columns c = columns-drawn

pub returns-clause-follow : goal.returns-clause-follow
returns-clause-follow c = follows-drawn
