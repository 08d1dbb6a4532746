use Rattle.std.proofs.Common.{◌<◌, length, arith}
use Rattle.chyp_iso.proofs.Steps.{when-false}
use Rattle.chyp_judge.proofs.Partnering.{still-there, told-behind}
use Rattle.chyp_judge.proofs.difference.first_difference.Goals as goal

pub at-requires-clause-at : goal.at-requires-clause-at
at-requires-clause-at c =
    let l = c.len.ensures in
    let h = c.if-at-len.false in
    let below : c.loop-at.at < length c.loop-at.walk.partners.items = omega arith in
    still-there c.loop-at.walk c.follow.new.walk c.loop-at.at c.in_ok-follow.ensures.walk below

pub at-requires-clause-differs : goal.at-requires-clause-differs
at-requires-clause-differs c =
    let l = c.len.ensures in
    let h = c.if-at-len.false in
    let below : c.loop-at.at < length c.loop-at.walk.partners.items = omega arith in
    told-behind c.loop-at.walk c.follow.new.walk c.loop-at.at c.in_ok-follow.ensures.walk below
    (when-false c.in_ok-follow.field-0 _ _ c.in_ok-follow.ensures.outcome c.if-not-branch.true)
