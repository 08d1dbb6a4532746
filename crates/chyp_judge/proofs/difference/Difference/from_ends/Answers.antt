use Rattle.chyp_judge.proofs.Partnering.{ends-may}
use Rattle.chyp_judge.proofs.difference.Difference.from_ends.Goals as goal

pub add_all-requires-clause-may : goal.add_all-requires-clause-may
add_all-requires-clause-may c =
    ends-may c.in_ok-walk.walk c.args.rewrite.now c.in_ok-walk.ensures.rewrite c.args.partners.now c.args.wires.now c.requires.ends
