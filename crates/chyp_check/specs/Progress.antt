-- How far the modules of a project are checked.
use Rattle.std.specs.Prelude.{◌≡◌, ℕ, true, false, List, Option, None, Some, IsSome, length, slice_index_or}
use Rattle.chyp_base.specs.declared.verdict.Verdict.{Verdict}
use Rattle.chyp_syntax.specs.Words.{Word}
use Rattle.chyp_env.specs.Environment.{Binding}
use Rattle.chyp_env.specs.Site.{Imported}
use Rattle.chyp_names.specs.Binding.{Binds}
use Rattle.chyp_verdicts.specs.Judged.{IsJudged}
use Rattle.chyp_modules.specs.Library.{Library}
use Rattle.chyp_modules.specs.Modules.{Finds, HasEnvironment}
use Rattle.chyp_reach.specs.Relation.{relates}
use Rattle.chyp_check.specs.Project.{Project, library_in, name_at}

-- the environments of some texts of a project, each by its number
abbrev pub Environments : Type 0
Environments = List (Option (List Binding))

-- each of them is what its text makes, and there is a place for each text
pub record AreMade (project : Project) (envs : Environments) : Type 0 where
  pub many : length envs ≡ length project.nodes
  pub each : (number : ℕ) (env : List Binding) → slice_index_or envs number None ≡ Some env
      → HasEnvironment (library_in project.nodes) (name_at project.nodes number) env

-- all texts that this one reaches have theirs, but for those that reach themselves
abbrev pub IsReady : Project → Environments → ℕ → Type 0
IsReady project envs number = (other : ℕ) → relates project.rows number other ≡ true → relates project.rows other other ≡ false
    → IsSome (slice_index_or envs other None)

-- The statement of this number with these words, in the module of this name, gets this verdict behind statements that have made
-- `env`, and makes `next` of it.
pub record IsNext (library : Library) (home : List ℕ) (words : List Word) (env : List Binding) (number : ℕ) (verdict : Verdict)
    (next : List Binding) : Type 0 where
  pub imported : Imported
  pub finds : Finds library words imported
  pub judged : IsJudged (record { scope = record { words = words; env = env }; home = home; imported = imported }) verdict
  pub binds : Binds (record { scope = record { words = words; env = env }; home = home; imported = imported }) number verdict next
