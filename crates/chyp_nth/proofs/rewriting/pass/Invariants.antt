use Rattle.chyp_judge.specs.Rewrite.{IsGiven}
use Rattle.chyp_nth.proofs.rewriting.pass.Given as goal

abbrev pub invariant-loop-count : goal.invariant-loop-count
invariant-loop-count l = IsGiven l.initial.occurrences l.count l.occurrences
