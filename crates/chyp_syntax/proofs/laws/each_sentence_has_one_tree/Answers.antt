use Rattle.chyp_syntax.proofs.OneTree.{has_one_tree}
use Rattle.chyp_syntax.proofs.laws.each_sentence_has_one_tree.Goals as goal

pub returns : goal.returns
returns c = has_one_tree
