use Rattle.std.proofs.Common.{[]}
use Rattle.chyp_names.proofs.Equations.{simp_equations}
use Rattle.chyp_names.proofs.steps.step.Goals as goal

pub equations-requires : goal.equations-requires
equations-requires c = simp_equations c.args.scope.now c.args.reason.now c.in-Simp.rules c.as_slice.result.now c.in-Simp.is c.as_slice.ensures c.requires
