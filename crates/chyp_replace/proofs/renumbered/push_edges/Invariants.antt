use Rattle.std.proofs.Common.{◌≡◌, ◌++◌, map, take}
use Rattle.chyp_replace.specs.Renumbered.{renumbered_edge}
use Rattle.chyp_replace.proofs.renumbered.push_edges.Given as goal

abbrev pub invariant-loop-k : goal.invariant-loop-k
invariant-loop-k l = l.list.items ≡ l.initial.list.items ++ map (renumbered_edge l.numbers l.numbers) (take l.k l.graph.edges)
