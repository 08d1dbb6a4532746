-- What contracts see of a step of a rewrite.
use Rattle.std.specs.Prelude.{List, map}
use Rattle.chyp_term.specs.declared.step.Step.{Step}
use Rattle.chyp_term.specs.declared.step.Step.TheVariants.{Refl, ByRule, Simp}
use Rattle.chyp_term.specs.Morphism.{Morphism}
use Rattle.chyp_term.specs.Equation.{equation_of, equations_of}

-- why a term is said to equal the next one: by the monoidal laws alone, by one equation in a context, or by equations
-- that take both terms to one normal form; each equation is read from its left side to its right
pub data Reason : Type 0 where
  by_laws : Reason
  by_rule : (rule : Morphism × Morphism) → Reason
  by_simp : (rules : List (Morphism × Morphism)) → Reason

-- the step without the boxes of its terms
abbrev pub reason_of : Step → Reason
reason_of Refl = by_laws
reason_of (ByRule rule) = by_rule (equation_of rule)
reason_of (Simp rules) = by_simp (equations_of rules)

-- each of the steps so
abbrev pub reasons_of : List Step → List Reason
reasons_of steps = map reason_of steps
