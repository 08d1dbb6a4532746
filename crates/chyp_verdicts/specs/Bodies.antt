-- The verdict of a statement by what it means. No public clause cites this.
use Rattle.std.specs.Prelude.{◌≡◌, Bool, List}
use Rattle.chyp_base.specs.declared.verdict.Verdict.{Verdict}
use Rattle.chyp_base.specs.declared.verdict.Verdict.TheVariants.{Accepted}
use Rattle.chyp_syntax.specs.Statement.{StatementTree, rewrite}
use Rattle.chyp_term.specs.Morphism.{Morphism}
use Rattle.chyp_term.specs.Step.{Reason}
use Rattle.chyp_verdicts.specs.Steps.{IsVerdictOnSteps}

-- the verdict of a statement that nothing refuses and that has these terms, reasons of its steps, and a hole or none
abbrev pub IsVerdictOf : List Morphism → List Reason → Bool → StatementTree → Verdict → Type 0
IsVerdictOf terms reasons hole (rewrite name first steps) verdict = IsVerdictOnSteps terms reasons hole verdict
IsVerdictOf terms reasons hole _ verdict = verdict ≡ Accepted
