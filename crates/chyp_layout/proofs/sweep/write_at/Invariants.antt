use Rattle.std.proofs.Common.{take}
use Rattle.chyp_graph.specs.Removal.{IsWritten}
use Rattle.chyp_layout.proofs.sweep.write_at.Given as goal

abbrev pub invariant-loop-w : goal.invariant-loop-w
invariant-loop-w l = IsWritten (take l.w-index l.wires) l.place l.initial.places l.places
