use Rattle.std.proofs.Common.{◌≡◌, ◌++◌, length, take}
use Rattle.chyp_term.specs.Perm.{count_from}
use Rattle.chyp_graph.proofs.draft.add_wires.Given as goal

abbrev pub invariant-loop-sort : goal.invariant-loop-sort
invariant-loop-sort l =
    (l.wires.items ≡ l.initial.wires.items ++ take l.sort-index l.sorts)
    × (l.numbers.items ≡ l.initial.numbers.items ++ count_from (length l.initial.wires.items) l.sort-index)
