use Rattle.std.proofs.Common.{◌≡◌, ◌-◌, length}
use Rattle.chyp_pattern.proofs.Listed.{listed}
use Rattle.chyp_judge.specs.Differences.{AreDifferences}
use Rattle.chyp_judge.specs.Rewrite.{IsGiven, NoneReaches}
use Rattle.chyp_judge.proofs.rewrite.try_all.Given as goal

abbrev pub invariant-loop-at : goal.invariant-loop-at
invariant-loop-at l = record {
  given : IsGiven l.initial.occurrences l.tried l.occurrences;
  none : NoneReaches l.rewrite l.tried;
  known : AreDifferences l.rewrite l.known;
  scratch : l.scratch ≡ l.initial.scratch;
}

abbrev pub decreases-loop-at : goal.decreases-loop-at
decreases-loop-at l = length (listed l.occurrences.pattern.graph l.occurrences.graph) - l.occurrences.given
