use Rattle.chyp_check.proofs.Reached.{reflects}
use Rattle.chyp_check.proofs.imports.reach.Goals as goal

pub returns-clause-reflects : goal.returns-clause-reflects
returns-clause-reflects c =
    reflects c.args.nodes.now c.in_ok-relation.relation c.close.new.self c.requires c.square.ensures c.in_ok-relation.ensures.many c.in_ok-relation.ensures.imports
    c.in_ok-close.ensures.chains
