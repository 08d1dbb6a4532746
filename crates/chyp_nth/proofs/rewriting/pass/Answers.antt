use Rattle.std.proofs.Common.{◌∙◌, ap}
use Rattle.chyp_match.specs.Matcher.{after}
use Rattle.chyp_judge.proofs.Giving.{all-given, next-given, none-given}
use Rattle.chyp_nth.proofs.rewriting.pass.Goals as goal

pub returns-in_default-clause-all : goal.returns-in_default-clause-all
returns-in_default-clause-all c h = all-given c.args.occurrences.now c.loop-count.count c.loop-count.occurrences c.loop-count.invariant c.in_default.ensures.none

pub loop-count-preserved : goal.loop-count-preserved
loop-count-preserved c =
    next-given c.args.occurrences.now c.loop-count.count c.loop-count.occurrences c.loop-count.invariant c.in-Some.field-0.now c.in-Some.ensures.some c.next.follows.lender-at-none
    (c.next.follows.holds-at-none ∙ ap (after c.loop-count.occurrences) c.in-Some.is)

pub loop-count-init : goal.loop-count-init
loop-count-init c = none-given c.args.occurrences.now c.requires
