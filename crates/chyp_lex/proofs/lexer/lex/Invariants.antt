use Rattle.std.proofs.Common.{◌-◌, ◌≤◌, length}
use Rattle.chyp_lex.proofs.TokenLists.{Continues}
use Rattle.chyp_lex.proofs.lexer.lex.Given as goal

abbrev pub invariant-loop-at : goal.invariant-loop-at
invariant-loop-at l = record { within : l.at ≤ length l.first; tokens : Continues l.first l.at l.tokens.items }

abbrev pub decreases-loop-at : goal.decreases-loop-at
decreases-loop-at l = length l.first - l.at
