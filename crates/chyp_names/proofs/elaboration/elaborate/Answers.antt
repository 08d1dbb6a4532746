use Rattle.std.proofs.Common.{◌≡◌, [], subst}
use Rattle.std.proofs.lemmas.Bool.{both_ways}
use Rattle.chyp_base.specs.declared.verdict.Verdict.TheVariants.{TooBig}
use Rattle.chyp_syntax.specs.Statement.{statement_of}
use Rattle.chyp_env.specs.ImportState.{site_of}
use Rattle.chyp_names.specs.Elaboration.{IsRefused, too_big}
use Rattle.chyp_names.proofs.Refusals.{refused_by_terms}
use Rattle.chyp_names.proofs.elaboration.elaborate.Goals as goal

pub returns-then-not-is_small-clause-refused : goal.returns-then-not-is_small-clause-refused
returns-then-not-is_small-clause-refused c = λ verdict e.
    let is : TooBig ≡ verdict = cc (e) in
    let small = c.is_small.ensures c.args.module.now in
    subst (IsRefused (site_of c.args.scope.now c.args.module.now c.args.import.now) (statement_of c.args.ast.now)) is
    (too_big (c.in_ok-check_names.ensures.fresh) (c.in_ok-check_names.ensures.fits c.args.module.now) (c.in_ok-check_names.ensures.known)
    (λ within. both_ways c.is_small.result c.if-not-is_small.true (small.1 within)))

pub made-requires-clause-small : goal.made-requires-clause-small
made-requires-clause-small c = (c.is_small.ensures []).0 c.if-not-is_small.false

pub returns-clause-refused : goal.returns-clause-refused
returns-clause-refused c = λ verdict e.
    refused_by_terms (site_of c.args.scope.now c.args.module.now c.args.import.now) (statement_of c.args.ast.now) verdict (c.in_ok-check_names.ensures.fresh)
    (c.in_ok-check_names.ensures.fits c.args.module.now) (c.in_ok-check_names.ensures.known) ((c.is_small.ensures c.args.module.now).0 c.if-not-is_small.false)
    (c.made.ensures.refused verdict e)
