use Rattle.std.proofs.Common.{◌≡◌, ◌+◌, ◌++◌, ◌≤◌}
use Rattle.chyp_session.specs.Place.{place_of}
use Rattle.chyp_session.proofs.place.moved_on.Given as goal

abbrev pub invariant-loop-at : goal.invariant-loop-at
invariant-loop-at l = record {
  reached : l.place ≡ place_of (l.first ++ l.second) l.at;
  line : l.place.line ≤ l.at + 1;
  col : l.place.col ≤ l.at + 1;
}
