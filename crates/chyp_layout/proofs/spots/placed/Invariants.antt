use Rattle.std.proofs.Common.{◌≡◌, take}
use Rattle.chyp_layout.specs.Spots.{placed_from}
use Rattle.chyp_layout.proofs.spots.placed.Given as goal

abbrev pub invariant-loop-c : goal.invariant-loop-c
invariant-loop-c l = l.placed.items ≡ placed_from l.graph 1 (take l.c l.order)
