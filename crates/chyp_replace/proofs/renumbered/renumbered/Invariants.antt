use Rattle.std.proofs.Common.{◌≡◌, map, slice_index, take}
use Rattle.chyp_replace.proofs.renumbered.renumbered.Given as goal

abbrev pub invariant-loop-wire : goal.invariant-loop-wire
invariant-loop-wire l = l.renumbered.items ≡ map (slice_index l.numbers) (take l.wire-index l.wires)
