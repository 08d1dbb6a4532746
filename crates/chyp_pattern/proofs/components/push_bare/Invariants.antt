use Rattle.chyp_pattern.proofs.Anchoring.{AreBareBelow}
use Rattle.chyp_pattern.proofs.components.push_bare.Given as goal

abbrev pub invariant-loop-w : goal.invariant-loop-w
invariant-loop-w l = AreBareBelow l.graph l.w l.initial.anchors.items l.anchors.items
