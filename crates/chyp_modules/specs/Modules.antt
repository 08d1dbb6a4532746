-- The environments and the verdicts of the modules of a library.
use Rattle.std.specs.Prelude.{◌≡◌, ℕ, zero, suc, List, [], length, None, Some, slice_get}
use Rattle.chyp_base.specs.declared.verdict.Verdict.{Verdict}
use Rattle.chyp_syntax.specs.Words.{Word}
use Rattle.chyp_env.specs.Environment.{Binding}
use Rattle.chyp_env.specs.Site.{Imported, nothing, absent, on_cycle, there, Site}
use Rattle.chyp_names.specs.Binding.{Binds}
use Rattle.chyp_verdicts.specs.Judged.{IsJudged}
use Rattle.chyp_verdicts.specs.Standing.{Gets, Standing}
use Rattle.chyp_modules.specs.Import.{Imports, ImportsNothing, Reaches}
use Rattle.chyp_modules.specs.Library.{Library, IsModule}

mutual
  -- The first statements of a module, as many as this, make this environment: each of them, once it has its verdict, binds
  -- what it binds.
  pub data Makes (library : Library) : List ℕ → ℕ → List Binding → Type 0 where
    at_start : {name text : List ℕ} {statements : List (List Word)} → IsModule library name text statements
        → Makes library name zero []
    one_more : {name : List ℕ} {number : ℕ} {site : Site} {verdict : Verdict} {next : List Binding} → Stands library name number site
        → IsJudged site verdict → Binds site number verdict next → Makes library name (suc number) next

  -- the statement of this number in a module stands at this site, behind the statements before it
  pub data Stands (library : Library) : List ℕ → ℕ → Site → Type 0 where
    stands : {name text : List ℕ} {number : ℕ} {site : Site} {statements : List (List Word)} → site.home ≡ name
        → IsModule library name text statements
        → slice_get statements number ≡ Some site.scope.words → Makes library name number site.scope.env
        → Finds library site.scope.words site.imported → Stands library name number site

  -- a statement with these words imports this
  pub data Finds (library : Library) : List Word → Imported → Type 0 where
    no_import : {words : List Word} → ImportsNothing words → Finds library words nothing
    of_none : {name : List ℕ} {words : List Word} → Imports words name → library name ≡ None
        → Finds library words absent
    of_cycle : {name whole : List ℕ} {words : List Word} → Imports words name → library name ≡ Some whole
        → Reaches library name name
        → Finds library words on_cycle
    of_module : {name whole : List ℕ} {words : List Word} {statements : List (List Word)} {env : List Binding}
        → Imports words name
        → IsModule library name whole statements → ¬ Reaches library name name → Makes library name (length statements) env
        → Finds library words (there env)

-- the statements of a module make this environment, which is what the module passes on
pub record HasEnvironment (library : Library) (name : List ℕ) (env : List Binding) : Type 0 where
  pub text : List ℕ
  pub statements : List (List Word)
  pub is_module : IsModule library name text statements
  pub makes : Makes library name (length statements) env

-- the statements of the modules of a library, each where it stands
abbrev pub standing : Library → Standing
standing library origin site = Stands library origin.home origin.number site

-- the statements of a module get these verdicts
pub record AreVerdicts (library : Library) (name : List ℕ) (verdicts : List Verdict) : Type 0 where
  pub text : List ℕ
  pub statements : List (List Word)
  pub is_module : IsModule library name text statements
  pub many : length verdicts ≡ length statements
  pub each : (number : ℕ) (verdict : Verdict) → slice_get verdicts number ≡ Some verdict
      → Gets (standing library) (record { home = name; number = number }) verdict
