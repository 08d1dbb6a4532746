use Rattle.std.proofs.Common.{ℕ, ◌≡◌, Some, take}
use Rattle.chyp_term.proofs.Members.{Member}
use Rattle.chyp_store.specs.Items.{item_at}
use Rattle.chyp_work.specs.Filling.{KeepsEnds, KnowsMaker, KnowsUser}
use Rattle.chyp_work.specs.declared.board.EdgeItem.{EdgeItem}
use Rattle.chyp_work.proofs.ends.note_edges.Given as goal

abbrev pub invariant-loop-k : goal.invariant-loop-k
invariant-loop-k l = record {
  kept : KeepsEnds l.initial.board l.board;
  makers : (k w : ℕ) (e : EdgeItem) → Member k (take l.k-index l.ks) → item_at k l.initial.board.edges.items ≡ Some e → Member w e.targets.items → KnowsMaker l.board w;
  users : (k w : ℕ) (e : EdgeItem) → Member k (take l.k-index l.ks) → item_at k l.initial.board.edges.items ≡ Some e → Member w e.sources.items → KnowsUser l.board w;
}
