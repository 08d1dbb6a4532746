use Rattle.std.proofs.Common.{ℕ, ◌<◌, ◌≤◌, ◌≡◌, ◌⊎◌, ◌↔◌, length}
use Rattle.std.specs.Vec.{vec_capacity}
use Rattle.chyp_match.specs.Row.{IsMarked}
use Rattle.chyp_match.proofs.row.Row.join.Given as goal

abbrev pub invariant-loop-j : goal.invariant-loop-j
invariant-loop-j l = record {
  same : l.self-inside.room ≡ l.initial.self-inside.room;
  room : l.self-inside.room ≤ vec_capacity l.self-inside.marks;
  size : length l.self-inside.marks.items ≡ length l.initial.self-inside.marks.items;
  marks : (i : ℕ) → IsMarked l.self-inside.marks.items i ↔ (IsMarked l.initial.self-inside.marks.items i ⊎ ((i < l.j) × IsMarked l.other-inside.marks.items i));
}
