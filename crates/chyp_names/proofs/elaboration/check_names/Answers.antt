use Rattle.std.proofs.Common.{◌≡◌, ◌∙◌, Some, sym, ap, subst}
use Rattle.chyp_syntax.specs.Statement.{statement_of}
use Rattle.chyp_base.specs.declared.verdict.Verdict.TheVariants.{Declared}
use Rattle.chyp_env.specs.ImportState.{site_of}
use Rattle.chyp_names.specs.Elaboration.{IsRefused, declared, at_import, at_name}
use Rattle.chyp_names.proofs.elaboration.check_names.Goals as goal

pub returns-then-is_declared-clause-refused : goal.returns-then-is_declared-clause-refused
returns-then-is_declared-clause-refused c = λ verdict home e.
    let is : Declared 1 ≡ verdict = cc (e) in
    subst (IsRefused (site_of c.args.scope.now home c.args.import.now) (statement_of c.args.ast.now)) is (declared (sym c.is_declared.ensures ∙ c.if-is_declared.true))

pub returns-in-Some-clause-refused : goal.returns-in-Some-clause-refused
returns-in-Some-clause-refused c = λ verdict home e.
    let is : c.in-Some.verdict ≡ verdict = cc (e) in
    at_import (sym c.is_declared.ensures ∙ c.if-is_declared.false) (sym (c.in_ok-verdict.ensures home) ∙ c.in-Some.is ∙ ap Some is)

pub returns-in-Some-first_fault-clause-refused : goal.returns-in-Some-first_fault-clause-refused
returns-in-Some-first_fault-clause-refused c = λ verdict home e.
    let is : c.in-Some-first_fault.verdict ≡ verdict = cc (e) in
    at_name (sym c.is_declared.ensures ∙ c.if-is_declared.false) (sym (c.in_ok-verdict.ensures home) ∙ c.in_default.is) (sym c.first_fault.ensures ∙ c.in-Some-first_fault.is ∙ ap Some is)
