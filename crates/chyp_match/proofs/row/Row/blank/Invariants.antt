use Rattle.std.proofs.Common.{◌≡◌, ◌≤◌, false, replicate}
use Rattle.std.specs.Vec.{vec_capacity}
use Rattle.chyp_match.proofs.row.Row.blank.Given as goal

abbrev pub invariant-loop : goal.invariant-loop
invariant-loop l = record {
  marks : l.self-inside.marks.items ≡ replicate l.counter false;
  same : l.self-inside.room ≡ l.initial.self-inside.room;
  room : l.self-inside.room ≤ vec_capacity l.self-inside.marks;
}
