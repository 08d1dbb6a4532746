use Rattle.std.proofs.Common.{◌≡◌, ◌≤◌, length, take}
use Rattle.chyp_pairs.proofs.pairing.Pairing.undo.Given as goal

abbrev pub invariant-loop-self : goal.invariant-loop-self
invariant-loop-self l = record {
  edges : l.self.edges ≡ l.initial.self.edges;
  wires : l.self.wires ≡ l.initial.self.wires;
  pairs : take l.count l.self.pairs ≡ take l.count l.initial.self.pairs;
  enough : l.count ≤ length l.self.pairs;
}

abbrev pub decreases-loop-self : goal.decreases-loop-self
decreases-loop-self l = length l.self.pairs
