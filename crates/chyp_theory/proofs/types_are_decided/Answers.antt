use Rattle.chyp_term.proofs.Deciding.{decide-sorts}
use Rattle.chyp_theory.proofs.Deciding.{decide-permutation, decide-typed}
use Rattle.chyp_theory.proofs.types_are_decided.Goals as goal

pub returns-clause-typing : goal.returns-clause-typing
returns-clause-typing c = decide-typed

pub returns-clause-sorts : goal.returns-clause-sorts
returns-clause-sorts c = decide-sorts

pub returns-clause-permutations : goal.returns-clause-permutations
returns-clause-permutations c = decide-permutation
