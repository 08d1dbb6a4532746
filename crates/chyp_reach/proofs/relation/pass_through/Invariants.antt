use Rattle.std.proofs.Common.{◌≡◌, ◌<◌, ◌≤◌, ◌||◌, ◌&&◌, ℕ, [], false, length, slice_index_or}
use Rattle.chyp_reach.specs.Relation.{IsSquare, relates}
use Rattle.chyp_reach.proofs.relation.pass_through.Given as goal

abbrev pub invariant-loop-at : goal.invariant-loop-at
invariant-loop-at l = record {
  below : (i j : ℕ) → i < l.at → relates l.rows i j ≡ (relates l.initial.rows i j || (relates l.initial.rows i l.pivot && slice_index_or l.beyond j false));
  behind : (i : ℕ) → l.at ≤ i → slice_index_or l.rows i [] ≡ slice_index_or l.initial.rows i [];
  square : IsSquare l.rows;
  many : length l.rows ≡ length l.initial.rows;
  long : length l.beyond ≡ length l.rows;
}
