use Rattle.std.proofs.Common.{◌≡◌, ◌+◌, ◌≤◌, List, ℕ, [], subst}
use Rattle.std.specs.Prelude.{IfOk, OnErr, OnOk}
use Rattle.chyp_modules.specs.Checking.{HasChecks}
use Rattle.chyp_modules.specs.Library.{Library, Module, library_of, with_main}
use Rattle.chyp_modules.specs.Modules.{AreVerdicts}
use Rattle.chyp_check.proofs.all.check_all.Goals as goal

-- what holds over the texts that were read holds over those that were given
pub over-given : (P : Library → Type 0) → (read modules : List Module) → read ≡ modules → (text_read text : List ℕ) → text_read ≡ text
    → P (with_main (library_of read) text_read) → P (with_main (library_of modules) text)
over-given P read modules same text_read text same_text h =
    subst (λ (t : List ℕ). P (with_main (library_of modules) t)) same_text
    (subst (λ (ms : List Module). P (with_main (library_of ms) text_read)) same h)

pub returns-clause-verdicts : goal.returns-clause-verdicts
returns-clause-verdicts g c =
    over-given (λ (library : Library). IfOk c.check_main.result (λ verdicts. AreVerdicts library [] verdicts))
    c.in_ok-read.read c.args.modules.now c.in_ok-read.ensures c.in_ok-main.main.text c.args.text.now c.in_ok-main.ensures c.check_main.ensures.verdicts

pub returns-clause-steps : goal.returns-clause-steps
returns-clause-steps g c =
    over-given (λ (library : Library). (n : ℕ) → HasChecks library n → OnOk c.check_main.result (c.check_main.new.steps ≡ c.args.steps.now + n))
    c.in_ok-read.read c.args.modules.now c.in_ok-read.ensures c.in_ok-main.main.text c.args.text.now c.in_ok-main.ensures c.check_main.ensures.steps

pub returns-clause-no_more : goal.returns-clause-no_more
returns-clause-no_more g c =
    over-given (λ (library : Library). (n : ℕ) → HasChecks library n → OnErr c.check_main.result (c.check_main.new.steps ≤ c.args.steps.now + n))
    c.in_ok-read.read c.args.modules.now c.in_ok-read.ensures c.in_ok-main.main.text c.args.text.now c.in_ok-main.ensures c.check_main.ensures.no_more
