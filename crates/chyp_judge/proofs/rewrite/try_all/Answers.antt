use Rattle.std.proofs.Common.{◌∙◌, ap, arith}
use Rattle.chyp_iso.proofs.Steps.{when-false, when-true}
use Rattle.chyp_match.specs.Matcher.{after}
use Rattle.chyp_judge.specs.Rewrite.{reached}
use Rattle.chyp_judge.proofs.Giving.{all-given, next-fits, next-given, next-less, next-occurs, none-more, none-reaches}
use Rattle.chyp_judge.proofs.rewrite.try_all.Goals as goal

pub reaches-requires-clause-occurs : goal.reaches-requires-clause-occurs
reaches-requires-clause-occurs c =
    next-occurs c.args.occurrences.now c.loop-at.tried c.loop-at.occurrences c.loop-at.invariant.given c.in-Some.at.now c.in-Some.ensures.some c.args.rewrite.now c.requires.pattern c.requires.graph

pub returns-then-branch : goal.returns-then-branch
returns-then-branch c =
    reached c.in-Some.at.now
    (next-occurs c.args.occurrences.now c.loop-at.tried c.loop-at.occurrences c.loop-at.invariant.given c.in-Some.at.now c.in-Some.ensures.some c.args.rewrite.now c.requires.pattern
    c.requires.graph)
    (when-true c.in_ok-reaches.field-0 _ _ c.in_ok-reaches.ensures.outcome c.if-branch.true)

pub overflow_add-tried : goal.overflow_add-tried
overflow_add-tried c =
    let h = next-fits c.args.occurrences.now c.loop-at.tried c.loop-at.occurrences c.loop-at.invariant.given c.in-Some.at.now c.in-Some.ensures.some c.requires.begun in
    omega arith

pub loop-at-smaller : goal.loop-at-smaller
loop-at-smaller c =
    next-less c.args.occurrences.now c.loop-at.tried c.loop-at.occurrences c.loop-at.invariant.given c.in-Some.at.now c.in-Some.ensures.some c.next.follows.lender-at-none
    (c.next.follows.holds-at-none ∙ ap (after c.loop-at.occurrences) c.in-Some.is)

pub loop-at-preserved : goal.loop-at-preserved
loop-at-preserved c =
    let b = c.args.occurrences.now in
    let m = c.loop-at.occurrences in
    let given = c.loop-at.invariant.given in
    let next = c.in-Some.ensures.some in
    let not = when-false c.in_ok-reaches.field-0 _ _ c.in_ok-reaches.ensures.outcome c.if-branch.false in
    record {
      given = next-given b c.loop-at.tried m given c.in-Some.at.now next c.next.follows.lender-at-none (c.next.follows.holds-at-none ∙ ap (after m) c.in-Some.is);
      none = none-more b c.loop-at.tried m given c.in-Some.at.now next c.args.rewrite.now c.requires.pattern c.requires.graph c.loop-at.invariant.none not;
      known = c.in_ok-known.ensures;
      scratch = c.in_ok-reaches.ensures.same ∙ c.loop-at.invariant.scratch;
    }

pub returns : goal.returns
returns c =
    none-reaches c.args.rewrite.now c.args.occurrences.now c.loop-at.tried c.requires.pattern c.requires.graph
    (all-given c.args.occurrences.now c.loop-at.tried c.loop-at.occurrences c.loop-at.invariant.given c.in_default.ensures.none) c.loop-at.invariant.none
