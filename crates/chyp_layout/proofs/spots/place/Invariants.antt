use Rattle.std.proofs.Common.{◌≡◌, ◌+◌, ◌*◌, ◌≤◌, ◌++◌, take}
use Rattle.chyp_layout.specs.Spots.{placed_in}
use Rattle.chyp_layout.proofs.Placing.{top_after}
use Rattle.chyp_layout.proofs.spots.place.Given as goal

abbrev pub invariant-loop-place : goal.invariant-loop-place
invariant-loop-place l = record {
  placed : l.placed.items ≡ l.initial.placed.items ++ placed_in l.graph l.column 0 20 (take l.place l.items);
  top : l.top ≡ top_after l.graph 20 (take l.place l.items);
  low : l.top ≤ 20 + l.place * 42949672980;
}
