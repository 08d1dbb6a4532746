use Rattle.std.proofs.Common.{◌≡◌, take}
use Rattle.chyp_work.specs.Board.{IsFiled}
use Rattle.chyp_store.specs.Items.{without_all}
use Rattle.chyp_work.proofs.board.remove_wires.Given as goal

abbrev pub invariant-loop-w : goal.invariant-loop-w
invariant-loop-w l = record {
  wires : l.board.wires.items ≡ without_all (take l.w-index l.images) l.initial.board.wires.items;
  rest : l.board ≡ record l.initial.board { wires = l.board.wires; sorted = l.board.sorted };
  filed : IsFiled l.board;
}
