use Rattle.std.proofs.Common.{◌≡◌, take}
use Rattle.chyp_work.proofs.parts.shared_sorts.Given as goal

abbrev pub invariant-loop-w : goal.invariant-loop-w
invariant-loop-w l = l.sorts.items ≡ take l.w l.graph.wires
