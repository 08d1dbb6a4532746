use Rattle.std.proofs.Common.{◌∙◌}
use Rattle.chyp_names.proofs.Refusals.{hole_of_rewrite}
use Rattle.chyp_names.proofs.elaboration.has_hole.Goals as goal

pub returns-in-RewriteDecl : goal.returns-in-RewriteDecl
returns-in-RewriteDecl c =
    c.any_hole.ensures ∙ hole_of_rewrite c.args.ast.now c.in-RewriteDecl.name c.in-RewriteDecl.first c.in-RewriteDecl.steps c.as_slice.result.now c.in-RewriteDecl.is c.as_slice.ensures
