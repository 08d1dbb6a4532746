use Rattle.std.proofs.Common.{[]}
use Rattle.chyp_names.proofs.Alike.{one_small}
use Rattle.chyp_names.proofs.terms.with_goal.Goals as goal

pub other-requires : goal.other-requires
other-requires c = one_small c.args.scope.now c.args.first.now c.args.step.now c.in-Some.goal c.in-Some.is c.requires
