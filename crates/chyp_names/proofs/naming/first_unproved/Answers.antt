use Rattle.std.proofs.Common.{[], ◌∙◌}
use Rattle.chyp_names.proofs.Uses.{unproved_of_steps, unproved_elsewhere}
use Rattle.chyp_names.proofs.naming.first_unproved.Goals as goal

pub returns-in-RewriteDecl : goal.returns-in-RewriteDecl
returns-in-RewriteDecl c =
    c.unproved_in_steps.ensures
    ∙ unproved_of_steps c.args.scope.now c.args.ast.now c.in-RewriteDecl.name c.in-RewriteDecl.first c.in-RewriteDecl.steps c.as_slice.result.now c.in-RewriteDecl.is
    c.as_slice.ensures

pub returns-in_default : goal.returns-in_default
returns-in_default c = unproved_elsewhere c.args.scope.now c.args.ast.now c.in_default.not-RewriteDecl
