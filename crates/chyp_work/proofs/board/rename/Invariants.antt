use Rattle.std.proofs.Common.{◌≡◌, ◌++◌, map, take, drop, slice_index}
use Rattle.chyp_work.proofs.board.rename.Given as goal

abbrev pub invariant-loop-place : goal.invariant-loop-place
invariant-loop-place l = l.places ≡ map (slice_index l.wires) (take l.place-index l.initial.places) ++ drop l.place-index l.initial.places
