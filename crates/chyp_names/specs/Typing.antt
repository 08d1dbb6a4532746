-- What typing asks of the terms of a statement, token by token, and when terms have one type.
use Rattle.std.specs.Prelude.{ℕ, List, [], ◌∷◌, ◌++◌, Option, None, Some, All}
use Rattle.std.specs.Option.{option_map_or}
use Rattle.chyp_syntax.specs.Statement.{StatementTree}
use Rattle.chyp_syntax.specs.Step.{StepTree}
use Rattle.chyp_syntax.specs.Term.{TermTree}
use Rattle.chyp_term.specs.Morphism.{Morphism}
use Rattle.chyp_term.specs.Derivation.{IsEquation}
use Rattle.chyp_env.specs.Expansion.{expansion_in}
use Rattle.chyp_env.specs.Typing.{agrees, Test, tests_of}
use Rattle.chyp_names.specs.Trees.{first_tree, steps_of}

-- the tests of a term that has to have the type of the first one, and stands behind this `=`
abbrev pub tests_of_other : (ℕ → Morphism) → Morphism → ℕ → TermTree → List Test
tests_of_other meaning first equals tree = tests_of meaning tree ++ (equals, agrees first (expansion_in meaning tree)) ∷ []

-- the tests of steps behind a first term; a hole has none
abbrev pub tests_of_steps : (ℕ → Morphism) → Morphism → List StepTree → List Test
tests_of_steps meaning first [] = []
tests_of_steps meaning first (step ∷ steps) = tests_of_goal step.goal ++ tests_of_steps meaning first steps
  where
    tests_of_goal : Option TermTree → List Test
    tests_of_goal None = []
    tests_of_goal (Some tree) = tests_of_other meaning first step.equals tree

-- the tests of a statement: those of its first tree, and of each tree behind an `=`
abbrev pub tests_of_statement : (ℕ → Morphism) → StatementTree → List Test
tests_of_statement meaning tree =
    option_map_or (λ first. tests_of meaning first ++ tests_of_steps meaning (expansion_in meaning first) (steps_of tree))
    (first_tree tree) []

-- each two of the terms are an equation: all are typed, and have one type
abbrev pub AreTypedAlike : List Morphism → Type 0
AreTypedAlike terms = All (λ s. All (λ t. IsEquation s t) terms) terms
