use Rattle.std.proofs.Common.{List, ℕ, sym, ap, subst, ◌∙◌}
use Rattle.chyp_env.specs.Closed.{FitsBehind}
use Rattle.chyp_env.specs.Entry.{entry_of}
use Rattle.chyp_env.specs.Environment.{Binding}
use Rattle.chyp_env.specs.Sound.{IsSoundSense}
use Rattle.chyp_extract_tests.proofs.Fitting.{found-sound, renamed-fits}
use Rattle.chyp_extract_tests.proofs.environments.renamed.Goals as goal

pub returns-in_ok-renamed-in-Some-clause-sound : goal.returns-in_ok-renamed-in-Some-clause-sound
returns-in_ok-renamed-in-Some-clause-sound c =
    subst IsSoundSense (sym (ap (λ (b : Binding). b.sense) c.in_ok-renamed-in-Some.ensures))
    (found-sound c.args.env.now c.as_bytes.result.now (entry_of c.in-Some.entry.now) c.sound.ensures c.in-Some.ensures.some)

pub returns-in_ok-renamed-in-Some-clause-fits : goal.returns-in_ok-renamed-in-Some-clause-fits
returns-in_ok-renamed-in-Some-clause-fits c =
    let old = entry_of c.in-Some.entry.now in
    let same = c.in_ok-renamed-in-Some.ensures ∙ ap (λ (n : List ℕ). record { name = n; origin = old.origin; sense = old.sense }) c.in_ok-new-in-Some.ensures in
    subst (FitsBehind c.args.env.now) (sym same)
    (renamed-fits c.args.env.now c.as_bytes.result.now old c.args.to.now c.closed.ensures c.in-Some.ensures.some c.in_ok-check_name.ensures)
