use Rattle.std.proofs.Common.{◌≡◌, ◌++◌, length, map}
use Rattle.chyp_term.specs.Perm.{count_from, permuted}
use Rattle.chyp_graph.specs.Composition.{inner}
use Rattle.chyp_graph.specs.Joining.{number_behind}
use Rattle.chyp_graph.proofs.graph.Graph.joined_numbers.Given as goal

abbrev pub invariant-loop-w : goal.invariant-loop-w
invariant-loop-w l =
    (l.numbers.items ≡ map (number_behind (length l.initial.wires.items) l.at_inputs l.self.inputs) (count_from 0 l.w))
    × (l.wires.items ≡ l.initial.wires.items ++ permuted l.self.wires (inner l.self.inputs l.w))
