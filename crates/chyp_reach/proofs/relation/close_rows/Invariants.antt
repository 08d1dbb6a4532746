use Rattle.std.proofs.Common.{◌≡◌, length}
use Rattle.chyp_reach.specs.Relation.{IsSquare}
use Rattle.chyp_reach.proofs.Chains.{AreClosedBelow}
use Rattle.chyp_reach.proofs.relation.close_rows.Given as goal

abbrev pub invariant-loop-pivot : goal.invariant-loop-pivot
invariant-loop-pivot l = record {
  closed : AreClosedBelow l.initial.rows l.pivot l.rows;
  square : IsSquare l.rows;
  many : length l.rows ≡ length l.initial.rows;
}
