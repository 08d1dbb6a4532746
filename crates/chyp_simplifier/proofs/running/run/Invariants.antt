use Rattle.std.proofs.Common.{map, ◌-◌, ◌≤◌}
use Rattle.chyp_simp.specs.Run.{RewritesIn, most_rewrites}
use Rattle.chyp_simplifier.specs.Rule.{IsSmall, graphs_of}
use Rattle.chyp_simplifier.proofs.Runs.{most_after}
use Rattle.chyp_simplifier.proofs.running.run.Given as goal

abbrev pub invariant-loop-form : goal.invariant-loop-form
invariant-loop-form l = record {
  few : l.rewrites ≤ most_rewrites;
  before : RewritesIn (map graphs_of l.rules) l.initial.form l.rewrites l.form;
  small : IsSmall (most_after l.rewrites) l.form;
}

abbrev pub decreases-loop-form : goal.decreases-loop-form
decreases-loop-form l = most_rewrites - l.rewrites
