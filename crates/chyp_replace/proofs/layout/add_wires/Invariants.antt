use Rattle.std.proofs.Common.{◌≡◌, ◌++◌, length, take}
use Rattle.chyp_term.specs.Perm.{count_from}
use Rattle.chyp_replace.proofs.layout.add_wires.Given as goal

abbrev pub invariant-loop-w : goal.invariant-loop-w
invariant-loop-w l =
    (l.wires.items ≡ l.initial.wires.items ++ take l.w l.graph.wires)
    × (l.numbers.items ≡ count_from (length l.initial.wires.items) l.w)
