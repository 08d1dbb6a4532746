-- What contracts see of the state of an import.
use Rattle.std.specs.Prelude.{ℕ, List}
use Rattle.chyp_env.specs.declared.import_state.ImportState.{ImportState}
use Rattle.chyp_env.specs.declared.import_state.ImportState.TheVariants.{NotImport, Absent, OnCycle, Module}
use Rattle.chyp_env.specs.Scope.{Scope}
use Rattle.chyp_env.specs.Site.{Imported, nothing, absent, on_cycle, there, Site}

-- what is imported
unfoldable pub imported_of : ImportState → Imported
imported_of NotImport = nothing
imported_of Absent = absent
imported_of OnCycle = on_cycle
imported_of (Module env) = there env.now

-- a statement in the module of this name, where its import is in this state
abbrev pub site_of : Scope → List ℕ → ImportState → Site
site_of scope home import' = record { scope = scope; home = home; imported = imported_of import' }
