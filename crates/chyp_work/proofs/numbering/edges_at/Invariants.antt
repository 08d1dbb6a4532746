use Rattle.std.proofs.Common.{◌≡◌, map, slice_index, take}
use Rattle.chyp_store.specs.Items.{ids}
use Rattle.chyp_work.proofs.numbering.edges_at.Given as goal

abbrev pub invariant-loop-k : goal.invariant-loop-k
invariant-loop-k l = l.edges.items ≡ map (slice_index (ids l.board.edges.items)) (take l.k-index l.places)
