use Rattle.std.proofs.Common.{ℕ, ◌<◌, ◌≡◌, Some, slice_index}
use Rattle.chyp_pairs.specs.Pairs.{edge_there, image}
use Rattle.chyp_iso.proofs.find.write_edges.Given as goal

abbrev pub invariant-loop-e : goal.invariant-loop-e
invariant-loop-e l = (x y : ℕ) → x < l.e → image edge_there l.pairing.pairs x ≡ Some y → slice_index l.edges x ≡ y
