use Rattle.std.proofs.Common.{◌≡◌, take}
use Rattle.chyp_term.specs.Perm.{permuted}
use Rattle.chyp_extractor.proofs.layer.sorts_at.Given as goal

abbrev pub invariant-loop-w : goal.invariant-loop-w
invariant-loop-w l = l.sorts.items ≡ permuted l.graph.wires (take l.w-index l.wires)
