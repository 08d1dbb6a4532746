use Rattle.std.proofs.Common.{◌≡◌, ◌+◌, ◌≤◌, ◌++◌, length, map}
use Rattle.std.specs.Prelude.{vec_capacity}
use Rattle.std.specs.List.{zip}
use Rattle.std.specs.Vec.Iter.{into_iter_items, into_iter_len}
use Rattle.chyp_base.specs.declared.sort.Sort.{Sort}
use Rattle.chyp_work.specs.Board.{IsFiled, loose_wire}
use Rattle.chyp_store.specs.Lists.{HasRows}
use Rattle.chyp_work.proofs.board.add_wires.Given as goal

abbrev pub invariant-loop-sort : goal.invariant-loop-sort
invariant-loop-sort l = record {
  whole : l.yielded ++ into_iter_items l.sort-iterator ≡ into_iter_items l.initial.sort-iterator;
  left : into_iter_len l.sort-iterator ≡ length (into_iter_items l.sort-iterator);
  wires : l.board.wires.items ≡ l.initial.board.wires.items ++ zip l.numbers.items (map loose_wire l.yielded);
  count : length l.numbers.items ≡ length l.yielded;
  rest : l.board ≡ record l.initial.board { wires = l.board.wires; sorted = l.board.sorted };
  filed : IsFiled l.board;
  room : length (into_iter_items l.sort-iterator) ≤ l.board.wires.room;
  rows : HasRows (λ (sort : Sort). sort.name) (into_iter_items l.sort-iterator) (length (into_iter_items l.sort-iterator)) l.board.sorted;
  places : length (into_iter_items l.sort-iterator) + length l.numbers.items ≤ vec_capacity l.numbers;
}
