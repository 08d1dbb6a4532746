use Rattle.chyp_term.specs.Equation.{equations_of}
use Rattle.chyp_simp.specs.Laws.{AreUsable}
use Rattle.chyp_simp_tests.proofs.words.add.Given as goal

abbrev pub invariant-loop-sides : goal.invariant-loop-sides
invariant-loop-sides l = AreUsable (equations_of l.equations.items)
