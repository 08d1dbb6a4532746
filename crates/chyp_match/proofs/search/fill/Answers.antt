use Rattle.std.proofs.Common.{arith}
use Rattle.chyp_iso.proofs.Steps.{when-true}
use Rattle.chyp_match.specs.Search.{IsEarlier, chosen}
use Rattle.chyp_match.proofs.Leaving.{fill-smaller, moved-more, order-more}
use Rattle.chyp_match.proofs.Placing.{placed-few}
use Rattle.chyp_match.proofs.search.fill.Goals as goal

pub loop-search-smaller : goal.loop-search-smaller
loop-search-smaller c =
    let r = when-true c.descend.result _ _ c.descend.ensures c.if-not-descend.false in
    fill-smaller c.args.pattern.now c.args.graph.now c.loop-search.search c.descend.new.search r.0.search r.1

pub loop-search-preserved : goal.loop-search-preserved
loop-search-preserved c =
    let r = when-true c.descend.result _ _ c.descend.ensures c.if-not-descend.false in
    record {
      moved = moved-more c.args.pattern.now c.args.graph.now (IsEarlier c.args.pattern.now (chosen c.args.search.now.levels.levels)) c.loop-search.search c.descend.new.search
          c.loop-search.invariant.moved r.0;
      order = order-more c.args.pattern.now c.args.graph.now (chosen c.args.search.now.levels.levels) (chosen c.loop-search.search.levels.levels) (chosen c.descend.new.search.levels.levels)
          c.loop-search.invariant.order r.1;
    }

pub returns-clause-outcome : goal.returns-clause-outcome
returns-clause-outcome c =
    let few = placed-few c.args.pattern.now c.args.graph.now c.loop-search.search.pairing c.loop-search.search.levels.levels c.loop-search.invariant.moved.search.placed in
    let n = c.len.ensures in
    let m = c.component_count.ensures in
    let t = c.loop-search-test.false in
    (c.loop-search.invariant.moved, omega arith)
