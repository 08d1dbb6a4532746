use Rattle.std.proofs.Common.{take}
use Rattle.chyp_pattern.specs.Sweep.{AreFoundAt}
use Rattle.chyp_pattern.proofs.components.find_all.Given as goal

abbrev pub invariant-loop-w : goal.invariant-loop-w
invariant-loop-w l = AreFoundAt l.graph (take l.w-index l.wires) l.initial.sweep l.sweep
