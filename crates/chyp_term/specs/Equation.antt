-- What contracts see of an equation.
use Rattle.std.specs.Prelude.{List, map}
use Rattle.chyp_term.specs.declared.equation.Equation.{Equation}
use Rattle.chyp_term.specs.Morphism.{Morphism}
use Rattle.chyp_term.specs.Term.{morphism_of}

-- the two sides of the equation, without their boxes
abbrev pub equation_of : Equation → Morphism × Morphism
equation_of e = (morphism_of e.left, morphism_of e.right)

-- each of the equations so
abbrev pub equations_of : List Equation → List (Morphism × Morphism)
equations_of es = map equation_of es
