use Rattle.std.proofs.Common.{subst}
use Rattle.std.specs.Bool.{MatchBool}
use Rattle.chyp_iso.proofs.Steps.{when-true}
use Rattle.chyp_match.specs.Search.{IsEarlier, IsFound, IsOver, chosen}
use Rattle.chyp_match.specs.declared.finder.Finder.{Finder}
use Rattle.chyp_match.proofs.Going.{go-first, go-past}
use Rattle.chyp_match.proofs.finder.go_on.Goals as goal
use Rattle.chyp_match.proofs.finder.go_on.Goals.{else-finder-via-then-finder+else-not-leave, else-finder-via-else-finder}

pub returns-clause-outcome : goal.returns-clause-outcome
returns-clause-outcome c =
    let f = c.args.finder.now in
    elim c.else-finder.branch [
      | else-finder-via-then-finder+else-not-leave w ↦
          go-past f.pattern.now f.graph.now f.search w.leave.new.search c.find.new.search f.begun c.find.result w.if-finder.true
          (when-true w.leave.result _ _ w.leave.ensures w.if-not-leave.false).0
          (subst (λ (x : Finder). MatchBool c.find.result (IsFound x.pattern.now x.graph.now (IsEarlier x.pattern.now (chosen x.search.levels.levels)) c.find.new.search)
          (IsOver x.pattern.now x.graph.now (IsEarlier x.pattern.now (chosen x.search.levels.levels)) c.find.new.search)) w.finder-is c.find.ensures.outcome)
      | else-finder-via-else-finder w ↦
          go-first f.pattern.now f.graph.now f.search c.find.new.search f.begun c.find.result w.if-finder.false
          (subst (λ (x : Finder). MatchBool c.find.result (IsFound x.pattern.now x.graph.now (IsEarlier x.pattern.now (chosen x.search.levels.levels)) c.find.new.search)
          (IsOver x.pattern.now x.graph.now (IsEarlier x.pattern.now (chosen x.search.levels.levels)) c.find.new.search)) w.finder-is c.find.ensures.outcome)
    ]
