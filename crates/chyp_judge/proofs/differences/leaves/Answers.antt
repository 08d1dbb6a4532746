use Rattle.std.proofs.Common.{IfSome, subst}
use Rattle.chyp_judge.specs.Walk.{IsDifference}
use Rattle.chyp_judge.proofs.Tracing.{spared-left}
use Rattle.chyp_judge.proofs.differences.leaves.Goals as goal

pub returns-in-Some : goal.returns-in-Some
returns-in-Some c =
    spared-left c.args.rewrite.now c.args.at.now c.requires.occurs c.in-Some.known.path.items
    (subst (λ o. IfSome o (λ d. IsDifference c.args.rewrite.now d.path.items)) c.in-Some.is c.requires.known) c.is_spared_by.result c.is_spared_by.ensures
