use Rattle.chyp_pattern.proofs.Anchoring.{AreFirstBelow}
use Rattle.chyp_pattern.proofs.components.first_edges.Given as goal

abbrev pub invariant-loop-k : goal.invariant-loop-k
invariant-loop-k l = AreFirstBelow l.graph l.k l.anchors.items l.sweep
