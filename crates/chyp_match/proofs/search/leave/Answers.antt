use Rattle.chyp_term.proofs.Positions.{slice_get-length}
use Rattle.chyp_iso.proofs.Steps.{when-false, when-true}
use Rattle.chyp_match.specs.Search.{IsPast, chosen}
use Rattle.chyp_match.proofs.Leaving.{dropped, moved-past, still-alike, still-begun, still-search}
use Rattle.chyp_match.proofs.search.leave.Goals as goal

pub try_from-requires-clause-search : goal.try_from-requires-clause-search
try_from-requires-clause-search c =
    (dropped c.args.pattern.now c.args.graph.now c.in-Some.level c.loop-level.search c.drop_last.new.search c.loop-level.invariant.search c.in-Some.ensures.some).search

pub try_from-requires-clause-more : goal.try_from-requires-clause-more
try_from-requires-clause-more c =
    let b = dropped c.args.pattern.now c.args.graph.now c.in-Some.level c.loop-level.search c.drop_last.new.search c.loop-level.invariant.search c.in-Some.ensures.some in
    slice_get-length c.args.pattern.now.anchors _ b.step.anchor b.step.next

pub returns-then-try_from : goal.returns-then-try_from
returns-then-try_from c =
    moved-past c.args.pattern.now c.args.graph.now (IsPast c.args.pattern.now (chosen c.args.search.now.levels.levels)) (chosen c.args.search.now.levels.levels) c.in-Some.level
    c.loop-level.search c.drop_last.new.search c.try_from.new.search
    c.loop-level.invariant.search c.loop-level.invariant.alike c.loop-level.invariant.begun c.in-Some.ensures.some
    (when-true c.try_from.result _ _ c.try_from.ensures.outcome c.if-try_from.true)

pub loop-level-preserved : goal.loop-level-preserved
loop-level-preserved c =
    let i = when-false c.try_from.result _ _ c.try_from.ensures.outcome c.if-try_from.false in
    let b = dropped c.args.pattern.now c.args.graph.now c.in-Some.level c.loop-level.search c.drop_last.new.search c.loop-level.invariant.search c.in-Some.ensures.some in
    record {
      search = still-search c.args.pattern.now c.args.graph.now c.in-Some.level c.loop-level.search c.drop_last.new.search c.try_from.new.search b i;
      alike = still-alike c.args.pattern.now c.args.graph.now (IsPast c.args.pattern.now (chosen c.args.search.now.levels.levels)) c.in-Some.level c.loop-level.search c.drop_last.new.search
          c.try_from.new.search b c.loop-level.invariant.alike i;
      begun = still-begun c.args.pattern.now c.args.graph.now (chosen c.args.search.now.levels.levels) c.in-Some.level c.loop-level.search c.drop_last.new.search c.try_from.new.search b
          c.loop-level.invariant.begun i;
    }
