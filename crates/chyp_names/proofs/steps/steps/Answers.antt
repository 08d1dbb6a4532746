use Rattle.std.proofs.Common.{[]}
use Rattle.chyp_names.proofs.Equations.{rewrite_equations}
use Rattle.chyp_names.proofs.steps.steps.Goals as goal

pub step_list-requires : goal.step_list-requires
step_list-requires c =
    rewrite_equations c.args.scope.now c.args.ast.now c.in-RewriteDecl.name c.in-RewriteDecl.first c.in-RewriteDecl.steps c.as_slice.result.now c.in-RewriteDecl.is
    c.as_slice.ensures c.requires.known c.requires.proved
