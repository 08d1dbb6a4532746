use Rattle.std.proofs.Common.{take}
use Rattle.chyp_graph.specs.PortTable.{AreNoted}
use Rattle.chyp_graph.proofs.port_table.note.Given as goal

abbrev pub invariant-loop-i : goal.invariant-loop-i
invariant-loop-i l = AreNoted l.edge (take l.i l.wires) l.initial.table l.table
