use Rattle.std.proofs.Common.{ℕ, ◌≡◌, ◌<◌, Some, slice_get}
use Rattle.chyp_graph.specs.PlainGraph.{Edge}
use Rattle.chyp_graph.specs.Removal.{AreLive, IsRemoval}
use Rattle.chyp_graph.proofs.removal.topological_order.Given as goal

abbrev pub invariant-loop-j : goal.invariant-loop-j
invariant-loop-j l = record {
  removal : IsRemoval l.graph l.removal;
  inputs : AreLive l.removal.live.items l.graph.inputs;
  targets : (i k : ℕ) (e : Edge) → i < l.j → slice_get l.removal.order.items i ≡ Some k → slice_get l.graph.edges k ≡ Some e → AreLive l.removal.live.items e.targets;
}
