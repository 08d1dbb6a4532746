-- Which verdict a statement gets.
use Rattle.std.specs.Prelude.{◌≡◌, ℕ, Bool, true, false, List}
use Rattle.chyp_base.specs.declared.verdict.Verdict.{Verdict}
use Rattle.chyp_base.specs.declared.verdict.Verdict.TheVariants.{Syntax, Accepted}
use Rattle.chyp_syntax.specs.Failing.{FailsAt}
use Rattle.chyp_syntax.specs.Sentence.{IsSentence}
use Rattle.chyp_syntax.specs.Statement.{StatementTree, rewrite}
use Rattle.chyp_syntax.specs.Step.{StepTree}
use Rattle.chyp_syntax.specs.Term.{TermTree}
use Rattle.chyp_env.specs.Site.{Site}
use Rattle.chyp_names.specs.Elaboration.{Passes, IsRefused, has_hole, steps_at, terms_of}
use Rattle.chyp_verdicts.specs.Steps.{IsVerdictOnSteps, Move, moves_of}

-- the statement is a rewrite
abbrev pub is_rewrite : StatementTree → Bool
is_rewrite (rewrite name first steps) = true
is_rewrite _ = false

-- the steps of a rewrite where it stands, from term to term
abbrev pub moves_at : Site → StatementTree → List Move
moves_at site tree = moves_of (terms_of site tree) (steps_at site.scope tree)

-- The verdict of a statement where it stands: the first token with which it is no sentence; the first point that refuses it;
-- else it is accepted, and a rewrite gets the verdict on its steps.
pub data IsJudged (site : Site) : Verdict → Type 0 where
  no_sentence : {k : ℕ} → FailsAt site.scope.words k → IsJudged site (Syntax k)
  refused : {tree : StatementTree} {verdict : Verdict} → IsSentence site.scope.words tree → IsRefused site tree verdict
      → IsJudged site verdict
  accepted : {tree : StatementTree} → IsSentence site.scope.words tree → Passes site tree → is_rewrite tree ≡ false → IsJudged site Accepted
  by_steps : {name : ℕ} {first : TermTree} {steps : List StepTree} {verdict : Verdict}
      → IsSentence site.scope.words (rewrite name first steps)
      → Passes site (rewrite name first steps)
      → IsVerdictOnSteps (terms_of site (rewrite name first steps)) (steps_at site.scope (rewrite name first steps))
      (has_hole (rewrite name first steps)) verdict
      → IsJudged site verdict
