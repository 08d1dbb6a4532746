use Rattle.chyp_verdicts.proofs.Follows.{proved-follows}
use Rattle.chyp_verdicts.proofs.KnownBelow.{known-of}
use Rattle.chyp_verdicts.proofs.proved_rewrites_follow.Goals as goal

pub returns : goal.returns
returns c = proved-follows
    (known-of c.every_text_has_one_token_list.ensures c.each_text_has_one_list_of_chunks.ensures c.each_chunk_is_a_sentence_or_fails.ensures
    c.each_beginning_of_a_prefix_is_one.ensures c.each_sentence_has_one_tree.ensures c.types_are_decided.ensures.sorts
    c.types_are_decided.ensures.permutations c.graphs_decide_the_laws.ensures.decided c.rewrites_are_graphs.ensures.decided)
