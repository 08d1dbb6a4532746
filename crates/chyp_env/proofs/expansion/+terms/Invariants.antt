use Rattle.std.proofs.Common.{◌+◌, ◌*◌, map}
use Rattle.chyp_syntax.specs.Term.{terms_of, tree_of}
use Rattle.chyp_env.proofs.Nodes.{nodes, all_nodes}
use Rattle.chyp_env.proofs.expansion.+terms.Given as goal

abbrev pub decreases-expand : goal.decreases-expand
decreases-expand l = 2 * nodes (tree_of l.tree.now)

abbrev pub decreases-row : goal.decreases-row
decreases-row l = 2 * all_nodes (terms_of (map tree_of l.parts.now)) + 1
