use Rattle.std.proofs.Common.{ℕ, ◌<◌, ◌≡◌, length, Some, slice_index}
use Rattle.chyp_pairs.specs.Pairs.{image, wire_there}
use Rattle.chyp_match.proofs.finder.wire_images.Given as goal

abbrev pub invariant-loop-v : goal.invariant-loop-v
invariant-loop-v l = record {
  size : length l.wires.items ≡ l.count;
  images : (k f : ℕ) → k < l.v → image wire_there l.pairing.pairs k ≡ Some f → slice_index l.wires.items k ≡ f;
}
