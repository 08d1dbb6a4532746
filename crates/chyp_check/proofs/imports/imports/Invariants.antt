use Rattle.std.proofs.Common.{◌≡◌, length}
use Rattle.chyp_check.proofs.Reached.{AreFirstRows}
use Rattle.chyp_check.proofs.imports.imports.Given as goal

abbrev pub invariant-loop-from : goal.invariant-loop-from
invariant-loop-from l = record {
  many : length l.relation ≡ length l.nodes;
  first : AreFirstRows l.nodes l.relation l.from;
}
