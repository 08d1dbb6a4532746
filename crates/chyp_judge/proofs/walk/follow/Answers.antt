use Rattle.chyp_judge.proofs.Partnering.{still-there, told-before}
use Rattle.chyp_judge.proofs.walk.follow.Goals as goal

pub follow_producers-requires-clause-at : goal.follow_producers-requires-clause-at
follow_producers-requires-clause-at c = still-there c.args.walk.now c.follow_consumers.new.walk c.args.at c.in_ok-follow_consumers.ensures.walk c.requires.at

pub returns-in_ok-follow_producers-clause-outcome : goal.returns-in_ok-follow_producers-clause-outcome
returns-in_ok-follow_producers-clause-outcome c =
    told-before c.args.walk.now c.follow_consumers.new.walk c.args.at c.in_ok-follow_producers.field-0 c.in_ok-follow_consumers.ensures.walk c.in_ok-follow_producers.ensures.outcome
