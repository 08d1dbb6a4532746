use Rattle.std.proofs.Common.{ℕ, ◌<◌, ◌≡◌, length, Some, slice_index}
use Rattle.chyp_pairs.specs.Pairs.{image, edge_there}
use Rattle.chyp_match.proofs.finder.edge_images.Given as goal

abbrev pub invariant-loop-k : goal.invariant-loop-k
invariant-loop-k l = record {
  size : length l.edges.items ≡ l.count;
  images : (k f : ℕ) → k < l.k → image edge_there l.pairing.pairs k ≡ Some f → slice_index l.edges.items k ≡ f;
}
