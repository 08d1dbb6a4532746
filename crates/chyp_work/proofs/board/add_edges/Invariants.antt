use Rattle.std.proofs.Common.{◌≡◌, ◌+◌, ◌≤◌, ◌++◌, All, length, map}
use Rattle.std.specs.Prelude.{vec_capacity}
use Rattle.std.specs.List.{zip}
use Rattle.std.specs.Vec.Iter.{into_iter_items, into_iter_len}
use Rattle.chyp_work.specs.declared.board.EdgeItem.{EdgeItem}
use Rattle.chyp_work.specs.Board.{HasPortsBelow, IsFiled, edges_of, renamed_by}
use Rattle.chyp_store.specs.Lists.{HasRows}
use Rattle.chyp_work.proofs.board.add_edges.Given as goal

abbrev pub invariant-loop-item : goal.invariant-loop-item
invariant-loop-item l = record {
  whole : l.yielded ++ into_iter_items l.item-iterator ≡ into_iter_items l.initial.item-iterator;
  left : into_iter_len l.item-iterator ≡ length (into_iter_items l.item-iterator);
  edges : edges_of l.board.edges.items ≡ edges_of l.initial.board.edges.items ++ zip l.numbers.items (map (renamed_by l.wires) l.yielded);
  within : All (HasPortsBelow (length l.wires)) (into_iter_items l.item-iterator);
  count : length l.numbers.items ≡ length l.yielded;
  rest : l.board ≡ record l.initial.board { edges = l.board.edges; named = l.board.named };
  filed : IsFiled l.board;
  room : length (into_iter_items l.item-iterator) ≤ l.board.edges.room;
  rows : HasRows (λ (item : EdgeItem). item.name) (into_iter_items l.item-iterator) (length (into_iter_items l.item-iterator)) l.board.named;
  places : length (into_iter_items l.item-iterator) + length l.numbers.items ≤ vec_capacity l.numbers;
}
