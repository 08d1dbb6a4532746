use Rattle.std.proofs.Common.{◌≡◌, drop, take}
use Rattle.chyp_extractor.specs.Tally.{AreWires, KeepsUnused, begins, unused_in}
use Rattle.chyp_extractor.proofs.tally.Tally.begins_with.Given as goal

abbrev pub invariant-loop-w : goal.invariant-loop-w
invariant-loop-w l = record {
  exact : begins l.wanted (unused_in l.graph l.n l.initial.self.stack.items) ≡ begins (drop l.w-index l.wanted) (unused_in l.graph l.n l.self.stack.items);
  wires : AreWires l.graph l.self.stack.items;
  unused : KeepsUnused l.graph l.n (take l.w-index l.wanted) l.initial.self.stack.items l.self.stack.items;
  live : l.self.live ≡ l.initial.self.live;
  parts : l.self.parts.items ≡ l.initial.self.parts.items;
}
