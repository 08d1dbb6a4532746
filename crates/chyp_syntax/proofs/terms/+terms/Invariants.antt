use Rattle.std.proofs.Common.{◌+◌, ◌-◌, ◌*◌, ◌≤◌, [], length, map}
use Rattle.chyp_syntax.specs.Expected.{next, atom, tail, atoms_left, term_then}
use Rattle.chyp_syntax.specs.Beginning.{tokens_from}
use Rattle.chyp_syntax.specs.Sentence.{AreAtoms, ArePars}
use Rattle.chyp_syntax.specs.Term.{tree_of}
use Rattle.chyp_syntax.proofs.Separated.{SoFar, Again}
use Rattle.chyp_syntax.proofs.terms.+terms.Given as goal

abbrev pub decreases-atom : goal.decreases-atom
decreases-atom l = 4 * l.depth + 1

abbrev pub decreases-inner : goal.decreases-inner
decreases-inner l = 4 * l.depth

abbrev pub decreases-par : goal.decreases-par
decreases-par l = 4 * l.depth + 2

abbrev pub decreases-term : goal.decreases-term
decreases-term l = 4 * l.depth + 3

abbrev pub invariant-par-loop-parts : goal.invariant-par-loop-parts
invariant-par-loop-parts l = record {
  within : (l.start ≤ l.at) × (l.at ≤ length l.tokens);
  so_far : SoFar (λ xs ts _. AreAtoms l.depth xs ts) (tokens_from l.tokens l.start) (tokens_from l.tokens l.at) (map tree_of l.parts) [];
  again : Again (λ e. next (atom l.depth) (next (tail (atoms_left l.depth)) e)) l.tokens l.start l.at;
}

abbrev pub decreases-par-loop-parts : goal.decreases-par-loop-parts
decreases-par-loop-parts l = length l.tokens - l.at

abbrev pub invariant-term-loop-semis : goal.invariant-term-loop-semis
invariant-term-loop-semis l = record {
  within : (l.start ≤ l.at) × (l.at ≤ length l.tokens);
  so_far : SoFar (ArePars l.depth) (tokens_from l.tokens l.start) (tokens_from l.tokens l.at) (map tree_of l.parts) l.semis;
  again : Again (term_then l.depth) l.tokens l.start l.at;
}

abbrev pub decreases-term-loop-semis : goal.decreases-term-loop-semis
decreases-term-loop-semis l = length l.tokens - l.at
