-- Why a statement has no body that names don't refuse and that is within the limits. No public clause cites this.
use Rattle.std.specs.Prelude.{◌≡◌, ℕ, Some}
use Rattle.chyp_base.specs.declared.verdict.Verdict.{Verdict}
use Rattle.chyp_base.specs.declared.verdict.Verdict.TheVariants.{Mistyped, Unproved}
use Rattle.chyp_syntax.specs.Statement.{StatementTree}
use Rattle.chyp_env.specs.Scope.{Scope}
use Rattle.chyp_env.specs.Typing.{AllHold, FailsFirst}
use Rattle.chyp_names.specs.Elaboration.{tests_at}
use Rattle.chyp_names.specs.Naming.{first_unproved}

-- its terms have no types that agree, or it rests on a rewrite that is not proved
pub data IsRefusedByTerms (scope : Scope) (tree : StatementTree) : Verdict → Type 0 where
  mistyped : {token : ℕ} → FailsFirst (tests_at scope tree) token → IsRefusedByTerms scope tree (Mistyped token)
  unproved : {token : ℕ} → AllHold (tests_at scope tree) → first_unproved scope tree ≡ Some token
      → IsRefusedByTerms scope tree (Unproved token)
