use Rattle.std.proofs.Common.{◌≡◌, ℕ, ◌-◌, length}
use Rattle.chyp_match.specs.Reach.{IsUnderWay, IsWalk}
use Rattle.chyp_match.proofs.reach.Reach.walk.Given as goal

abbrev pub decreases-loop-next : goal.decreases-loop-next
decreases-loop-next l = length l.graph.edges - l.next

abbrev pub invariant-loop-next : goal.invariant-loop-next
invariant-loop-next l = record {
  under_way : IsUnderWay l.graph l.self;
  rows : l.self.rows.items ≡ l.initial.self.rows.items;
  walk : (k : ℕ) → IsWalk l.graph k 0 l.initial.self.spare.marks l.initial.self.queue.items → IsWalk l.graph k l.next l.self.spare.marks l.self.queue.items;
}
