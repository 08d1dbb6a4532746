use Rattle.std.proofs.Common.{◌≡◌, Err, sym, ap, ◌∙◌, subst}
use Rattle.chyp_base.specs.declared.verdict.Verdict.TheVariants.{Mistyped, Unproved}
use Rattle.chyp_syntax.specs.Statement.{statement_of}
use Rattle.chyp_names.specs.Refusal.{IsRefusedByTerms, mistyped, unproved}
use Rattle.chyp_names.proofs.elaboration.made.Goals as goal

pub returns-in-Err-Fails-clause-refused : goal.returns-in-Err-Fails-clause-refused
returns-in-Err-Fails-clause-refused c = λ verdict e.
    let is : Mistyped c.in-Err-Fails.token ≡ verdict = cc (e, c.in-Err-Fails.token-is) in
    subst (IsRefusedByTerms c.args.scope.now (statement_of c.args.ast.now)) is
    (mistyped (c.in-Err-Fails.ensures.fails c.in-Err-Fails.token (ap Err c.in-Err-Fails.field-0-is)))

pub returns-in-Some-clause-refused : goal.returns-in-Some-clause-refused
returns-in-Some-clause-refused c = λ verdict e.
    let is : Unproved c.in-Some.token ≡ verdict = cc (e) in
    subst (IsRefusedByTerms c.args.scope.now (statement_of c.args.ast.now)) is
    (unproved c.in-Ok.ensures.hold (sym c.first_unproved.ensures ∙ c.in-Some.is))
