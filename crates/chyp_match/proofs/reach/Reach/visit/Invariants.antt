use Rattle.std.proofs.Common.{◌≡◌, ℕ, Some, slice_get}
use Rattle.chyp_match.specs.Reach.{IsMore, IsUnderWay, IsWalk, LeadsTo}
use Rattle.chyp_match.proofs.Reaching.{AreMarkedTo}
use Rattle.chyp_match.proofs.reach.Reach.visit.Given as goal

abbrev pub invariant-loop-w : goal.invariant-loop-w
invariant-loop-w l = record {
  under_way : IsUnderWay l.graph l.self;
  more : IsMore l.initial.self l.self;
  makers : AreMarkedTo l.graph l.w-items l.w-index l.self.spare.marks;
  walk : (j k : ℕ) → slice_get l.initial.self.queue.items l.at ≡ Some j → LeadsTo l.graph j k → IsWalk l.graph k l.at l.initial.self.spare.marks l.initial.self.queue.items
      → IsWalk l.graph k l.at l.self.spare.marks l.self.queue.items;
}
