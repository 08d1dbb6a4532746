use Rattle.std.proofs.Common.{◌≡◌, map, slice_index, take}
use Rattle.chyp_extractor.proofs.crossing.places_at.Given as goal

abbrev pub invariant-loop-w : goal.invariant-loop-w
invariant-loop-w l = l.places.items ≡ map (λ w. slice_index l.table w) (take l.w-index l.wires)
