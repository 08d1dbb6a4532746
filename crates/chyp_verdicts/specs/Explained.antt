-- What verdicts say of rewrites.
use Rattle.std.specs.Prelude.{◌≡◌, ℕ, ◌+◌, ◌<◌, List, [], All, Some, slice_get, ◌⊎◌}
use Rattle.chyp_base.specs.declared.verdict.Verdict.{Verdict}
use Rattle.chyp_base.specs.declared.verdict.Verdict.TheVariants.{Proved, Differs, NoRewrite, SimpDiffers, SimpLimit, TooWide}
use Rattle.chyp_syntax.specs.Sentence.{IsSentence}
use Rattle.chyp_syntax.specs.Statement.{StatementTree}
use Rattle.chyp_term.specs.Derivation.{Derives}
use Rattle.chyp_term.specs.Morphism.{Morphism}
use Rattle.chyp_term.specs.Rewriting.{RewritesInContext}
use Rattle.chyp_term.specs.Step.{Reason, by_laws, by_rule, by_simp}
use Rattle.chyp_env.specs.Environment.{equation, Origin}
use Rattle.chyp_env.specs.Site.{Site}
use Rattle.chyp_simp.specs.Comparing.{IsComparison}
use Rattle.chyp_simp.specs.Run.{most_placements}
use Rattle.chyp_simp.specs.declared.comparison.Comparison.{Comparison}
use Rattle.chyp_simp.specs.declared.comparison.Comparison.TheVariants as compared
use Rattle.chyp_simp.specs.declared.comparison.Comparison.TheVariants.{AtLimit, Different}
use Rattle.chyp_judge.specs.Judged.{HaveOccurrences, HavePlacements}
use Rattle.chyp_verdicts.specs.Judged.{moves_at}
use Rattle.chyp_verdicts.specs.Rules.{IsRewriteOf, RestsOn}
use Rattle.chyp_verdicts.specs.Standing.{Means, Standing}
use Rattle.chyp_verdicts.specs.Steps.{AreGood}

-- which statements stand before which others
abbrev pub Order : Type 1
Order = Origin → Origin → Type 0

-- the equation with these sides is that of a `rule` that stands before the statement and on which that one rests
pub record IsEarlierRule (Stands : Standing) (Before : Order) (origin : Origin) (sides : Morphism × Morphism) : Type 0 where
  pub from : Origin
  pub before : Before from origin
  pub rests : RestsOn Stands origin from
  pub means : Means Stands from (equation sides.0 sides.1)

-- the statement is a rewrite, and the equation of its first term and its last has a derivation from rules that stand before it
pub record HasProof (Stands : Standing) (Before : Order) (origin : Origin) : Type 0 where
  pub site : Site
  pub stands : Stands origin site
  pub first : Morphism
  pub last : Morphism
  pub is_rewrite : IsRewriteOf site first last
  pub rules : List (Morphism × Morphism)
  pub earlier : All (IsEarlierRule Stands Before origin) rules
  pub derivation : Derives rules first last

-- the statement is a rewrite whose step of this number, from 1, has this reason and leads from this term to that one; the steps
-- before it are good
pub record HasStep (Stands : Standing) (origin : Origin) (step : ℕ) (reason : Reason) (from to : Morphism) : Type 0 where
  pub site : Site
  pub stands : Stands origin site
  pub tree : StatementTree
  pub is_sentence : IsSentence site.scope.words tree
  pub k : ℕ
  pub numbered : step ≡ k + 1
  pub is : slice_get (moves_at site tree) k ≡ Some (record { reason = reason; from = from; to = to })
  pub front : AreGood (moves_at site tree) k

-- a step without a rule, whose equation the monoidal laws don't derive
pub record HasNoDerivation (Stands : Standing) (origin : Origin) (step : ℕ) : Type 0 where
  pub from : Morphism
  pub to : Morphism
  pub is_step : HasStep Stands origin step by_laws from to
  pub none : ¬ Derives [] from to

-- a step by a rule, which no context rewrites from the term to the goal; its left side has so many occurrences in the term
pub record HasNoContext (Stands : Standing) (origin : Origin) (step occurrences : ℕ) : Type 0 where
  pub left : Morphism
  pub right : Morphism
  pub from : Morphism
  pub to : Morphism
  pub is_step : HasStep Stands origin step (by_rule (left, right)) from to
  pub none : ¬ RewritesInContext left right from to
  pub occur : HaveOccurrences left from occurrences

-- a step by a rule whose left side has so many placements in the term, which are too many
pub record HasManyPlacements (Stands : Standing) (origin : Origin) (step placements : ℕ) : Type 0 where
  pub left : Morphism
  pub right : Morphism
  pub from : Morphism
  pub to : Morphism
  pub is_step : HasStep Stands origin step (by_rule (left, right)) from to
  pub many : most_placements < placements
  pub are : HavePlacements left from placements

-- a step by `simp`, whose terms compare so by its rules
pub record HasComparison (Stands : Standing) (origin : Origin) (step : ℕ) (comparison : Comparison) : Type 0 where
  pub rules : List (Morphism × Morphism)
  pub from : Morphism
  pub to : Morphism
  pub is_step : HasStep Stands origin step (by_simp rules) from to
  pub is : IsComparison rules from to comparison

-- what the verdict says of the statement
abbrev pub Explains : Standing → Order → Origin → Verdict → Type 0
Explains Stands Before origin Proved = HasProof Stands Before origin
Explains Stands Before origin (Differs step) = HasNoDerivation Stands origin step
Explains Stands Before origin (NoRewrite step occurrences) = HasNoContext Stands origin step occurrences
Explains Stands Before origin (TooWide step placements) =
    HasManyPlacements Stands origin step placements ⊎ HasComparison Stands origin step (compared.TooWide placements)
Explains Stands Before origin (SimpDiffers step) = HasComparison Stands origin step Different
Explains Stands Before origin (SimpLimit step) = HasComparison Stands origin step AtLimit
Explains Stands Before origin _ = Unit {0}
