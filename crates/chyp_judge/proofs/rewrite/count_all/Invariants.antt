use Rattle.std.proofs.Common.{◌-◌, length}
use Rattle.chyp_pattern.proofs.Listed.{listed}
use Rattle.chyp_judge.specs.Rewrite.{IsGiven}
use Rattle.chyp_judge.proofs.rewrite.count_all.Given as goal

abbrev pub invariant-loop-count : goal.invariant-loop-count
invariant-loop-count l = IsGiven l.initial.occurrences l.count l.occurrences

abbrev pub decreases-loop-count : goal.decreases-loop-count
decreases-loop-count l = length (listed l.occurrences.pattern.graph l.occurrences.graph) - l.occurrences.given
