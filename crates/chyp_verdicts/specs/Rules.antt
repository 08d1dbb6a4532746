-- From which rules an equation follows.
use Rattle.std.specs.Prelude.{◌≡◌, ℕ, List, Contains, All, Some, slice_get, flat_map, length, ◌-◌}
use Rattle.chyp_base.specs.declared.verdict.Verdict.TheVariants.{Proved}
use Rattle.chyp_syntax.specs.Sentence.{IsSentence}
use Rattle.chyp_syntax.specs.Statement.{StatementTree, rule, rewrite}
use Rattle.chyp_syntax.specs.Step.{StepTree}
use Rattle.chyp_syntax.specs.Term.{TermTree}
use Rattle.chyp_term.specs.Derivation.{Derives}
use Rattle.chyp_term.specs.Morphism.{Morphism}
use Rattle.chyp_env.specs.Environment.{equation, Binding, Origin}
use Rattle.chyp_env.specs.Scope.{binding_at}
use Rattle.chyp_env.specs.Site.{Site}
use Rattle.chyp_env.specs.Sound.{IsSound}
use Rattle.chyp_names.specs.Elaboration.{steps_at, terms_of}
use Rattle.chyp_names.specs.Naming.{names_of_reason}
use Rattle.chyp_verdicts.specs.Judged.{IsJudged}
use Rattle.chyp_verdicts.specs.Standing.{Means, Standing}
use Rattle.chyp_verdicts.specs.Steps.{rules_of}

-- the statement is a `rule`
pub record IsRule (site : Site) : Type 0 where
  pub name : ℕ
  pub left : TermTree
  pub equals : ℕ
  pub right : TermTree
  pub is_sentence : IsSentence site.scope.words (rule name left equals right)

-- the statement is a rewrite, and a `by` of one of its steps names this binding
pub record Cites (site : Site) (binding : Binding) : Type 0 where
  pub name : ℕ
  pub first : TermTree
  pub steps : List StepTree
  pub is_sentence : IsSentence site.scope.words (rewrite name first steps)
  pub step : StepTree
  pub is_step : Contains steps step
  pub token : ℕ
  pub named : Contains (names_of_reason step.reason) token
  pub is : binding_at site.scope token ≡ Some binding

-- the equations behind the `by`s of a rewrite, each in the direction in which a step uses it
abbrev pub cited_by : Site → StatementTree → List (Morphism × Morphism)
cited_by site tree = flat_map rules_of (steps_at site.scope tree)

-- The one statement rests on the other, which is a `rule`: a rule rests on itself, and a rewrite on what the statements rest on
-- that its `by`s name.
pub data RestsOn (Stands : Standing) : Origin → Origin → Type 0 where
  itself : {origin : Origin} {site : Site} → Stands origin site → IsRule site → RestsOn Stands origin origin
  by_name : {from to : Origin} {site : Site} {binding : Binding} → Stands from site → Cites site binding → RestsOn Stands binding.origin to
      → RestsOn Stands from to

-- the equation with these sides is permitted to the statement: it is that of a rule on which the statement rests
pub record Permits (Stands : Standing) (origin : Origin) (sides : Morphism × Morphism) : Type 0 where
  pub from : Origin
  pub rests : RestsOn Stands origin from
  pub means : Means Stands from (equation sides.0 sides.1)

-- from equations that are permitted to the statement, the first term and the last have a derivation
pub record IsDerived (Stands : Standing) (origin : Origin) (first last : Morphism) : Type 0 where
  pub rules : List (Morphism × Morphism)
  pub permitted : All (Permits Stands origin) rules
  pub derivation : Derives rules first last

-- the statement is a rewrite from this term to that one
pub record IsRewriteOf (site : Site) (first last : Morphism) : Type 0 where
  pub name : ℕ
  pub tree : TermTree
  pub steps : List StepTree
  pub is_sentence : IsSentence site.scope.words (rewrite name tree steps)
  pub is_first : slice_get (terms_of site (rewrite name tree steps)) 0 ≡ Some first
  pub is_last : slice_get (terms_of site (rewrite name tree steps)) (length (terms_of site (rewrite name tree steps)) - 1) ≡ Some last

-- where a rewrite is proved, its last term follows from its first by the equations that it cites; names stand for sound things
abbrev pub ProvedRewritesFollow : Type 0
ProvedRewritesFollow = (site : Site) → IsSound site.scope.env → IsJudged site Proved → (first last : Morphism)
    → (is : IsRewriteOf site first last) → Derives (cited_by site (rewrite is.name is.tree is.steps)) first last
