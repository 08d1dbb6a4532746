use Rattle.std.proofs.Common.{take}
use Rattle.chyp_graph.specs.Graph.{IsTable}
use Rattle.chyp_graph.specs.PortTable.{ports_on}
use Rattle.chyp_graph.proofs.port_table.table_of.Given as goal

abbrev pub invariant-loop-k : goal.invariant-loop-k
invariant-loop-k l = IsTable (ports_on l.side) (take l.k l.edges) l.wires l.table.items
