use Rattle.std.proofs.Common.{ℕ, ◌<◌, ◌≡◌, Some, slice_index}
use Rattle.chyp_pairs.specs.Pairs.{wire_there, image}
use Rattle.chyp_iso.proofs.find.write_wires.Given as goal

abbrev pub invariant-loop-v : goal.invariant-loop-v
invariant-loop-v l = (x y : ℕ) → x < l.v → image wire_there l.pairing.pairs x ≡ Some y → slice_index l.wires x ≡ y
