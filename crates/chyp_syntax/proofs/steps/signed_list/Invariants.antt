use Rattle.std.proofs.Common.{◌-◌, ◌≤◌, [], length}
use Rattle.chyp_syntax.specs.Expected.{next, signed, tail, signed_left}
use Rattle.chyp_syntax.specs.Beginning.{tokens_from}
use Rattle.chyp_syntax.specs.Sentence.{AreSigned}
use Rattle.chyp_syntax.proofs.Separated.{SoFar, Again}
use Rattle.chyp_syntax.proofs.steps.signed_list.Given as goal

abbrev pub invariant-loop-rules : goal.invariant-loop-rules
invariant-loop-rules l = record {
  within : (l.start ≤ l.at) × (l.at ≤ length l.tokens);
  so_far : SoFar (λ xs vs _. AreSigned xs vs) (tokens_from l.tokens l.start) (tokens_from l.tokens l.at) l.rules [];
  again : Again (λ e. next signed (next (tail signed_left) e)) l.tokens l.start l.at;
}

abbrev pub decreases-loop-rules : goal.decreases-loop-rules
decreases-loop-rules l = length l.tokens - l.at
