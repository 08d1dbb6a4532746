use Rattle.std.proofs.Common.{◌≡◌, take}
use Rattle.chyp_work.specs.Board.{IsFiled}
use Rattle.chyp_store.specs.Items.{without_all}
use Rattle.chyp_work.proofs.board.remove_edges.Given as goal

abbrev pub invariant-loop-k : goal.invariant-loop-k
invariant-loop-k l = record {
  edges : l.board.edges.items ≡ without_all (take l.k-index l.images) l.initial.board.edges.items;
  rest : l.board ≡ record l.initial.board { edges = l.board.edges; named = l.board.named };
  filed : IsFiled l.board;
}
