use Rattle.chyp_verdicts.proofs.KnownBelow.{known-of}
use Rattle.chyp_verdicts.proofs.Sites.{one-environment, one-verdict}
use Rattle.chyp_verdicts.proofs.each_statement_has_one_verdict.Goals as goal

pub returns-clause-verdict : goal.returns-clause-verdict
returns-clause-verdict c = one-verdict
    (known-of c.every_text_has_one_token_list.ensures c.each_text_has_one_list_of_chunks.ensures c.each_chunk_is_a_sentence_or_fails.ensures c.each_beginning_of_a_prefix_is_one.ensures
    c.each_sentence_has_one_tree.ensures c.types_are_decided.ensures.sorts c.types_are_decided.ensures.permutations c.graphs_decide_the_laws.ensures.decided c.rewrites_are_graphs.ensures.decided)

pub returns-clause-environment : goal.returns-clause-environment
returns-clause-environment c = one-environment
    (known-of c.every_text_has_one_token_list.ensures c.each_text_has_one_list_of_chunks.ensures c.each_chunk_is_a_sentence_or_fails.ensures c.each_beginning_of_a_prefix_is_one.ensures
    c.each_sentence_has_one_tree.ensures c.types_are_decided.ensures.sorts c.types_are_decided.ensures.permutations c.graphs_decide_the_laws.ensures.decided c.rewrites_are_graphs.ensures.decided)
