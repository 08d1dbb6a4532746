use Rattle.std.proofs.Common.{◌≡◌, [], length}
use Rattle.chyp_extractor.specs.Tally.{AreWires, KeepsUnused}
use Rattle.chyp_extractor.proofs.tally.Tally.drop_used.Given as goal

abbrev pub invariant-loop-w : goal.invariant-loop-w
invariant-loop-w l = record {
  wires : AreWires l.graph l.self.stack.items;
  unused : KeepsUnused l.graph l.n [] l.initial.self.stack.items l.self.stack.items;
  live : l.self.live ≡ l.initial.self.live;
  parts : l.self.parts.items ≡ l.initial.self.parts.items;
}

abbrev pub decreases-loop-w : goal.decreases-loop-w
decreases-loop-w l = length l.self.stack.items
