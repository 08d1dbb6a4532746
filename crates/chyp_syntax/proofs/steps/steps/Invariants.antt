use Rattle.std.proofs.Common.{◌≡◌, ◌-◌, ◌≤◌, length, map}
use Rattle.chyp_syntax.specs.Expected.{steps, verdict}
use Rattle.chyp_syntax.specs.Beginning.{tokens_from}
use Rattle.chyp_syntax.specs.Step.{step_of}
use Rattle.chyp_syntax.proofs.StepRuns.{StepsSoFar}
use Rattle.chyp_syntax.proofs.steps.steps.Given as goal

abbrev pub invariant-loop-alloc : goal.invariant-loop-alloc
invariant-loop-alloc l = record {
  within : (l.start ≤ l.at) × (l.at ≤ length l.tokens);
  so_far : StepsSoFar (tokens_from l.tokens l.start) (tokens_from l.tokens l.at) (map step_of l.steps);
  again : verdict steps (tokens_from l.tokens l.start) ≡ verdict steps (tokens_from l.tokens l.at);
}

abbrev pub decreases-loop-alloc : goal.decreases-loop-alloc
decreases-loop-alloc l = length l.tokens - l.at
