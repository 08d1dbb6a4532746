use Rattle.chyp_iso.proofs.Steps.{when-false, when-true}
use Rattle.chyp_match.proofs.Leaving.{descend-answer, tried-answer}
use Rattle.chyp_match.proofs.search.descend.Goals as goal

pub returns-then-try_from : goal.returns-then-try_from
returns-then-try_from c =
    tried-answer c.args.pattern.now c.args.graph.now c.args.search.now c.try_from.new.search c.try_from.result c.if-try_from.true
    (when-true c.try_from.result _ _ c.try_from.ensures.outcome c.if-try_from.true)

pub returns-else-try_from : goal.returns-else-try_from
returns-else-try_from c =
    descend-answer c.args.pattern.now c.args.graph.now c.args.search.now c.try_from.new.search c.leave.new.search c.leave.result c.requires.search c.requires.more
    (when-false c.try_from.result _ _ c.try_from.ensures.outcome c.if-try_from.false) c.leave.ensures
