use Rattle.std.proofs.Common.{◌∙◌, ap, arith}
use Rattle.chyp_match.specs.Matcher.{after}
use Rattle.chyp_judge.proofs.Giving.{all-given, next-fits, next-given, next-less}
use Rattle.chyp_judge.proofs.rewrite.count_all.Goals as goal

pub overflow_add-count : goal.overflow_add-count
overflow_add-count c =
    let h = next-fits c.args.occurrences.now c.loop-count.count c.loop-count.occurrences c.loop-count.invariant c.in-Some.field-0.now c.in-Some.ensures.some c.requires in
    omega arith

pub loop-count-preserved : goal.loop-count-preserved
loop-count-preserved c =
    next-given c.args.occurrences.now c.loop-count.count c.loop-count.occurrences c.loop-count.invariant c.in-Some.field-0.now c.in-Some.ensures.some c.next.follows.lender-at-none
    (c.next.follows.holds-at-none ∙ ap (after c.loop-count.occurrences) c.in-Some.is)

pub loop-count-smaller : goal.loop-count-smaller
loop-count-smaller c =
    next-less c.args.occurrences.now c.loop-count.count c.loop-count.occurrences c.loop-count.invariant c.in-Some.field-0.now c.in-Some.ensures.some c.next.follows.lender-at-none
    (c.next.follows.holds-at-none ∙ ap (after c.loop-count.occurrences) c.in-Some.is)

pub returns : goal.returns
returns c = all-given c.args.occurrences.now c.loop-count.count c.loop-count.occurrences c.loop-count.invariant c.in_default.ensures.none
