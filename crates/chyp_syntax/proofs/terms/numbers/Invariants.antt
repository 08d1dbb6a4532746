use Rattle.std.proofs.Common.{◌-◌, ◌≤◌, [], length}
use Rattle.chyp_lex.specs.declared.token.TokenKind.TheVariants.{Number}
use Rattle.chyp_syntax.specs.Expected.{next, token, tail, numbers_left}
use Rattle.chyp_syntax.specs.Beginning.{tokens_from}
use Rattle.chyp_syntax.specs.Sentence.{AreNumbers}
use Rattle.chyp_syntax.proofs.Separated.{SoFar, Again}
use Rattle.chyp_syntax.proofs.terms.numbers.Given as goal

abbrev pub invariant-loop-values : goal.invariant-loop-values
invariant-loop-values l = record {
  within : (l.start ≤ l.at) × (l.at ≤ length l.tokens);
  so_far : SoFar (λ xs vs _. AreNumbers xs vs) (tokens_from l.tokens l.start) (tokens_from l.tokens l.at) l.values [];
  again : Again (λ e. next (token Number) (next (tail numbers_left) e)) l.tokens l.start l.at;
}

abbrev pub decreases-loop-values : goal.decreases-loop-values
decreases-loop-values l = length l.tokens - l.at
