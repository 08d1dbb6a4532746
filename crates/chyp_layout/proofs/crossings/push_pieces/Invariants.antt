use Rattle.std.proofs.Common.{◌≤◌, max}
use Rattle.chyp_layout.specs.Crossings.{piece_from}
use Rattle.chyp_layout.specs.Order.{AreExtended}
use Rattle.chyp_layout.proofs.crossings.push_pieces.Given as goal

abbrev pub invariant-loop-at : goal.invariant-loop-at
invariant-loop-at l = record {
  low : l.at ≤ max l.start l.end;
  pieces : AreExtended (piece_from l.picture l.line) l.start l.at l.initial.gaps.items l.gaps.items;
}
