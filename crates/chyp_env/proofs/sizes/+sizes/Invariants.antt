use Rattle.std.proofs.Common.{◌+◌, ◌*◌}
use Rattle.chyp_syntax.specs.Term.{tree_of}
use Rattle.chyp_env.proofs.Nodes.{nodes, nodes_in}
use Rattle.chyp_env.proofs.sizes.+sizes.Given as goal

abbrev pub decreases-sizes_of : goal.decreases-sizes_of
decreases-sizes_of l = 2 * nodes (tree_of l.tree.now)

abbrev pub decreases-sizes_of_row : goal.decreases-sizes_of_row
decreases-sizes_of_row l = 2 * nodes_in l.parts.now + 1
