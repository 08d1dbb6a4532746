-- Terms that have the type of a first one. No public clause cites this.
use Rattle.std.specs.Prelude.{ℕ, List, map, All}
use Rattle.chyp_syntax.specs.declared.step.StepAst.{StepAst}
use Rattle.chyp_syntax.specs.Step.{step_of}
use Rattle.chyp_syntax.specs.Term.{TermTree}
use Rattle.chyp_term.specs.Derivation.{IsEquation}
use Rattle.chyp_term.specs.Morphism.{Morphism}
use Rattle.chyp_env.specs.Scope.{Scope, term_at}
use Rattle.chyp_env.specs.Typing.{AllHold, FailsFirst}
use Rattle.chyp_names.specs.Elaboration.{expansion_at}
use Rattle.chyp_names.specs.Goals.{goal_terms}
use Rattle.chyp_names.specs.Typing.{tests_of_other, tests_of_steps}

-- the first term is an equation with the term of the tree, and the tests between them hold
abbrev pub Agrees : Scope → Morphism → ℕ → TermTree → Type 0
Agrees scope first equals tree = AllHold (tests_of_other (term_at scope) first equals tree) × IsEquation first (expansion_at scope tree)

-- this is the first test that fails
abbrev pub Disagrees : Scope → Morphism → ℕ → TermTree → ℕ → Type 0
Disagrees scope first equals tree token = FailsFirst (tests_of_other (term_at scope) first equals tree) token

-- the same of the goals of steps
abbrev pub StepsAgree : Scope → Morphism → List StepAst → Type 0
StepsAgree scope first steps = AllHold (tests_of_steps (term_at scope) first (map step_of steps))
    × All (IsEquation first) (goal_terms scope steps)

abbrev pub StepsDisagree : Scope → Morphism → List StepAst → ℕ → Type 0
StepsDisagree scope first steps token = FailsFirst (tests_of_steps (term_at scope) first (map step_of steps)) token
