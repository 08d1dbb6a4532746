use Rattle.std.proofs.Common.{◌≡◌, ◌+◌}
use Rattle.chyp_check.specs.Project.{library_in, name_at}
use Rattle.chyp_check.proofs.Fronts.{IsFront}
use Rattle.chyp_check.proofs.text.check_each.Given as goal

abbrev pub invariant-loop-index : goal.invariant-loop-index
invariant-loop-index g l = record {
  front : IsFront (library_in l.project.nodes) (name_at l.project.nodes l.number) l.index l.verdicts.items l.env;
  ticked : l.steps ≡ l.initial.steps + l.index;
}
