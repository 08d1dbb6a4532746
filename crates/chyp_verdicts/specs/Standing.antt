-- Statements by their origins: the verdicts that they get, and what they stand for.
use Rattle.chyp_base.specs.declared.verdict.Verdict.{Verdict}
use Rattle.chyp_env.specs.Environment.{Origin, Sense}
use Rattle.chyp_env.specs.Site.{Site}
use Rattle.chyp_names.specs.Binding.{StandsFor}
use Rattle.chyp_verdicts.specs.Judged.{IsJudged}

-- which statement stands at which site, behind those before it: in one text, or in the modules of a library
abbrev pub Standing : Type 1
Standing = Origin → Site → Type 0

-- the statement gets this verdict
pub record Gets (Stands : Standing) (origin : Origin) (verdict : Verdict) : Type 0 where
  pub site : Site
  pub stands : Stands origin site
  pub judged : IsJudged site verdict

-- what the statement stands for wherever its name is passed on
pub record Means (Stands : Standing) (origin : Origin) (sense : Sense) : Type 0 where
  pub site : Site
  pub verdict : Verdict
  pub stands : Stands origin site
  pub judged : IsJudged site verdict
  pub stands_for : StandsFor site verdict sense
