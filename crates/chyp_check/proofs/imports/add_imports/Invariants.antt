use Rattle.std.proofs.Common.{◌≡◌, length}
use Rattle.chyp_check.proofs.Reached.{AreAdded}
use Rattle.chyp_check.proofs.imports.add_imports.Given as goal

abbrev pub invariant-loop-name : goal.invariant-loop-name
invariant-loop-name l = record {
  many : length l.relation ≡ length l.nodes;
  added : AreAdded l.nodes l.names l.from l.initial.relation l.relation l.name-index;
}
