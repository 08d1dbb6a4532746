use Rattle.std.proofs.Common.{◌≡◌, [], ◌∷◌, take}
use Rattle.chyp_names.specs.Agreement.{StepsAgree}
use Rattle.chyp_names.specs.Goals.{goal_terms}
use Rattle.chyp_names.proofs.terms.with_goals.Given as goal

abbrev pub invariant-loop-step : goal.invariant-loop-step
invariant-loop-step l =
    (l.terms.items ≡ l.first ∷ goal_terms l.scope (take l.step-index l.steps)) × StepsAgree l.scope l.first (take l.step-index l.steps)
