-- What holds of each statement, wherever it stands.
use Rattle.std.specs.Prelude.{◌≡◌, ◌≤◌, ℕ, List, length, Some}
use Rattle.chyp_base.specs.Verdict.{token_of}
use Rattle.chyp_base.specs.declared.verdict.Verdict.{Verdict}
use Rattle.chyp_env.specs.Environment.{Binding}
use Rattle.chyp_env.specs.Site.{Site, IsImportState}
use Rattle.chyp_env.specs.Sound.{IsSound}
use Rattle.chyp_names.specs.Binding.{Binds}
use Rattle.chyp_verdicts.specs.Judged.{IsJudged}

-- the statement gets exactly one verdict
pub record HasOneVerdict (site : Site) : Type 0 where
  pub verdict : Verdict
  pub judged : IsJudged site verdict
  pub only : (other : Verdict) → IsJudged site other → other ≡ verdict

-- so it is in each module, behind whatever makes an environment, and in each state of an import
abbrev pub EachStatementHasOneVerdict : Type 0
EachStatementHasOneVerdict = (site : Site) → IsSound site.scope.env → HasOneVerdict site

-- with this number and this verdict, the statement makes exactly one environment
pub record MakesOneEnvironment (site : Site) (number : ℕ) (verdict : Verdict) : Type 0 where
  pub env : List Binding
  pub binds : Binds site number verdict env
  pub only : (other : List Binding) → Binds site number verdict other → other ≡ env

-- so it does with its verdict, wherever it stands
abbrev pub EachStatementMakesOneEnvironment : Type 0
EachStatementMakesOneEnvironment = (site : Site) (number : ℕ) (verdict : Verdict) → IsSound site.scope.env → IsImportState site
    → IsJudged site verdict → MakesOneEnvironment site number verdict

-- a verdict that names a token names one of its statement, or the place behind the last one
abbrev pub EachVerdictNamesAToken : Type 0
EachVerdictNamesAToken = (site : Site) (verdict : Verdict) (token : ℕ) → IsJudged site verdict → token_of verdict ≡ Some token
    → token ≤ length site.scope.words
