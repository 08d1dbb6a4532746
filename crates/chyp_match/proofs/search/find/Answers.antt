use Rattle.std.proofs.Common.{sym, subst}
use Rattle.chyp_graph.specs.PlainGraph.{PlainGraph}
use Rattle.chyp_iso.specs.Following.{Fits}
use Rattle.chyp_iso.proofs.Steps.{when-false, when-true}
use Rattle.chyp_match.specs.Reach.{IsReach}
use Rattle.chyp_match.specs.Search.{IsEarlier, chosen}
use Rattle.chyp_match.proofs.Placing.{placed-fits}
use Rattle.chyp_match.proofs.Finding.{broken-none, find-smaller, moved-past-broken, over-past-broken, unbroken-along, unbroken-back}
use Rattle.chyp_match.proofs.Leaving.{moved-more}
use Rattle.chyp_match.proofs.search.find.Goals as goal

pub is_unbroken-requires-clause-fits : goal.is_unbroken-requires-clause-fits
is_unbroken-requires-clause-fits c =
    let l = c.args.pattern.now in
    let g = c.args.graph.now in
    let f = when-true c.fill.result _ _ c.fill.ensures.outcome c.loop-reach-test.true in
    let s = c.fill.new.search in
    subst (λ (x : PlainGraph). Fits x c.graph-in-loop-reach.result.now s.pairing) (sym c.graph.ensures.graph)
    (subst (λ (x : PlainGraph). Fits l.graph x s.pairing) (sym c.graph-in-loop-reach.ensures) (placed-fits l g s.pairing s.levels.levels f.0.search.placed))

pub returns-then-is_unbroken-clause-outcome : goal.returns-then-is_unbroken-clause-outcome
returns-then-is_unbroken-clause-outcome c =
    let l = c.args.pattern.now in
    let g = c.args.graph.now in
    let f = when-true c.fill.result _ _ c.fill.ensures.outcome c.loop-reach-test.true in
    record {
      moved = moved-more l g (IsEarlier l (chosen c.args.search.now.levels.levels)) c.loop-reach.search c.fill.new.search c.loop-reach.invariant.moved f.0;
      whole = f.1;
      unbroken = unbroken-along c.graph.result.now c.graph-in-loop-reach.result.now l.graph g c.fill.new.search.pairing.pairs c.graph.ensures.graph c.graph-in-loop-reach.ensures
          (when-true c.is_unbroken.result _ _ c.is_unbroken.ensures.outcome c.if-is_unbroken.true);
    }

pub returns-then-not-leave-clause-outcome : goal.returns-then-not-leave-clause-outcome
returns-then-not-leave-clause-outcome c =
    let l = c.args.pattern.now in
    let g = c.args.graph.now in
    let P = IsEarlier l (chosen c.args.search.now.levels.levels) in
    let f = when-true c.fill.result _ _ c.fill.ensures.outcome c.loop-reach-test.true in
    let n = unbroken-back c.graph.result.now c.graph-in-loop-reach.result.now l.graph g c.fill.new.search.pairing.pairs c.graph.ensures.graph c.graph-in-loop-reach.ensures
    (when-false c.is_unbroken.result _ _ c.is_unbroken.ensures.outcome c.if-is_unbroken.false) in
    over-past-broken l g P c.fill.new.search c.leave.new.search (moved-more l g P c.loop-reach.search c.fill.new.search c.loop-reach.invariant.moved f.0)
    (broken-none l g c.fill.new.search f.0.search c.is_unbroken.ensures.matching f.1 n) (when-false c.leave.result _ _ c.leave.ensures c.if-not-leave.true)

pub loop-reach-smaller : goal.loop-reach-smaller
loop-reach-smaller c =
    let r = when-true c.leave.result _ _ c.leave.ensures c.if-not-leave.false in
    find-smaller c.args.pattern.now c.args.graph.now c.loop-reach.search c.fill.new.search c.leave.new.search r.0.search (c.fill.ensures.order c.loop-reach-test.true) r.1

pub loop-reach-preserved : goal.loop-reach-preserved
loop-reach-preserved c =
    let l = c.args.pattern.now in
    let g = c.args.graph.now in
    let P = IsEarlier l (chosen c.args.search.now.levels.levels) in
    let f = when-true c.fill.result _ _ c.fill.ensures.outcome c.loop-reach-test.true in
    let n = unbroken-back c.graph.result.now c.graph-in-loop-reach.result.now l.graph g c.fill.new.search.pairing.pairs c.graph.ensures.graph c.graph-in-loop-reach.ensures
    (when-false c.is_unbroken.result _ _ c.is_unbroken.ensures.outcome c.if-is_unbroken.false) in
    record {
      moved = moved-past-broken l g P c.fill.new.search c.leave.new.search (moved-more l g P c.loop-reach.search c.fill.new.search c.loop-reach.invariant.moved f.0)
          (broken-none l g c.fill.new.search f.0.search c.is_unbroken.ensures.matching f.1 n) (when-true c.leave.result _ _ c.leave.ensures c.if-not-leave.false).0;
      reach = subst (λ (x : PlainGraph). IsReach x c.is_unbroken.new.reach) c.graph-in-loop-reach.ensures c.is_unbroken.ensures.reach;
    }
