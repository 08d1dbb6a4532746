use Rattle.std.proofs.Common.{◌≡◌, ◌∷◌, take}
use Rattle.std.specs.List.{filter_map}
use Rattle.chyp_check.specs.Project.{node_of}
use Rattle.chyp_check.proofs.node.nodes.Given as goal

abbrev pub invariant-loop-entry : goal.invariant-loop-entry
invariant-loop-entry l = l.nodes.items ≡ (l.home, l.main.text) ∷ filter_map node_of (take l.entry-index l.entry-items)
