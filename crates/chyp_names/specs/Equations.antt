-- Whether names behind a `by` stand for equations. No public clause cites this.
use Rattle.std.specs.Prelude.{ℕ, Bool, true, false, IsTrue, All}
use Rattle.std.specs.Option.{option_map_or}
use Rattle.chyp_syntax.specs.declared.step.ReasonAst.{ReasonAst}
use Rattle.chyp_env.specs.Environment.{Sense, equation}
use Rattle.chyp_env.specs.Scope.{Scope, binding_at}
use Rattle.chyp_names.specs.Naming.{names_of_reason}

-- a name of this sense is an equation
abbrev pub is_equation : Sense → Bool
is_equation (equation first last) = true
is_equation _ = false

-- the name of this token is bound to an equation
abbrev pub IsEquationAt : Scope → ℕ → Type 0
IsEquationAt scope token = IsTrue (option_map_or (λ binding. is_equation binding.sense) (binding_at scope token) false)

-- each name behind a `by` is
abbrev pub RestsOnEquations : Scope → ReasonAst → Type 0
RestsOnEquations scope reason = All (IsEquationAt scope) (names_of_reason reason)
