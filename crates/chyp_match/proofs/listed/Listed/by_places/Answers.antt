use Rattle.chyp_match.proofs.Viewing.{are-numbered, net-same, places-seen}
use Rattle.chyp_match.proofs.listed.Listed.by_places.Goals as goal

pub returns-clause-net : goal.returns-clause-net
returns-clause-net c = rw (← c.self.view_is) (net-same _ c.valid.ensures.valid)

pub returns-clause-edges : goal.returns-clause-edges
returns-clause-edges c = are-numbered _

pub returns-clause-wires : goal.returns-clause-wires
returns-clause-wires c = are-numbered _

pub returns-clause-seen : goal.returns-clause-seen
returns-clause-seen c = rw (← c.self.view_is) (places-seen _ c.valid.ensures.valid)
