use Rattle.std.proofs.Common.{◌≡◌, take}
use Rattle.chyp_work.specs.Filling.{AreNoted, IsMade, end_of}
use Rattle.chyp_work.proofs.ends.note_makers.Given as goal

abbrev pub invariant-loop-i : goal.invariant-loop-i
invariant-loop-i l = record {
  items : AreNoted (IsMade (end_of l.edge) (take l.i l.ports)) l.initial.wires.items l.wires.items;
  rest : l.wires ≡ record l.initial.wires { items = l.wires.items };
}
