use Rattle.std.proofs.Common.{ℕ, ◌≡◌, ◌<◌, Some, length, slice_get, take}
use Rattle.chyp_graph.specs.PlainGraph.{Edge}
use Rattle.chyp_graph.specs.Removal.{AreLevels, live_behind}
use Rattle.chyp_graph.specs.Rounds.{IsRound}
use Rattle.chyp_graph.proofs.levels.rounds_in.Given as goal

abbrev pub invariant-loop-k : goal.invariant-loop-k
invariant-loop-k l = record {
  size : length l.rounds.items ≡ length l.graph.edges;
  dated : AreLevels l.graph (live_behind l.graph (take l.k-index l.order)) l.levels.items;
  each : (j k : ℕ) (e : Edge) (r : ℕ) → j < l.k-index → slice_get l.order j ≡ Some k → slice_get l.graph.edges k ≡ Some e → slice_get l.rounds.items k ≡ Some r → IsRound l.graph e r;
}
