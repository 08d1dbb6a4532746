use Rattle.std.proofs.Common.{◌≡◌, map}
use Rattle.chyp_term.specs.Perm.{count_from, permuted}
use Rattle.chyp_graph.specs.Composition.{inner}
use Rattle.chyp_replace.specs.Numbers.{kept_before}
use Rattle.chyp_replace.proofs.layout.kept_wires.Given as goal

abbrev pub invariant-loop-w : goal.invariant-loop-w
invariant-loop-w l =
    (l.wires.items ≡ permuted l.graph.wires (inner l.images l.w))
    × (l.before.items ≡ map (kept_before l.images) (count_from 0 l.w))
