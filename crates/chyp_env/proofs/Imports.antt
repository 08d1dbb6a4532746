-- The states of an import.
use Rattle.std.proofs.Common.{◌≡◌, List, ℕ, refl, sym, subst, ap}
use Rattle.chyp_env.specs.declared.import_state.ImportState.{ImportState}
use Rattle.chyp_env.specs.declared.import_state.ImportState.TheVariants.{NotImport}
use Rattle.chyp_env.specs.Environment.{Binding}
use Rattle.chyp_env.specs.Import.{AgreeOnOrigins}
use Rattle.chyp_env.specs.ImportState.{imported_of, site_of}
use Rattle.chyp_env.specs.Scope.{Scope}
use Rattle.chyp_env.specs.Site.{nothing, IsImportState, no_import}

-- what is no import imports nothing
pub imports_nothing : (state : ImportState) → state ≡ NotImport → imported_of state ≡ nothing
unfolding imported_of
imports_nothing state is = ap imported_of is

pub alone : (scope : Scope) (home : List ℕ) (state : ImportState) → state ≡ NotImport → IsImportState (site_of scope home state)
alone scope home state is = no_import (imports_nothing state is)

-- and there is nothing to agree with
pub agrees_with_nothing : (env : List Binding) (state : ImportState) → state ≡ NotImport → AgreeOnOrigins env (imported_of state)
agrees_with_nothing env state is = subst (AgreeOnOrigins env) (sym (imports_nothing state is)) tt
