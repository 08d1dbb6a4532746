use Rattle.chyp_verdicts.proofs.KnownBelow.{known-of}
use Rattle.chyp_modules.proofs.Declared.{declarations-determined, names-from-texts}
use Rattle.chyp_modules.proofs.names_come_from_texts.Goals as goal

pub returns-clause-bound : goal.returns-clause-bound
returns-clause-bound c = names-from-texts
    (known-of c.every_text_has_one_token_list.ensures c.each_text_has_one_list_of_chunks.ensures c.each_chunk_is_a_sentence_or_fails.ensures c.each_beginning_of_a_prefix_is_one.ensures
    c.each_sentence_has_one_tree.ensures c.types_are_decided.ensures.sorts c.types_are_decided.ensures.permutations c.graphs_decide_the_laws.ensures.decided c.rewrites_are_graphs.ensures.decided)

pub returns-clause-determined : goal.returns-clause-determined
returns-clause-determined c = declarations-determined
    (known-of c.every_text_has_one_token_list.ensures c.each_text_has_one_list_of_chunks.ensures c.each_chunk_is_a_sentence_or_fails.ensures c.each_beginning_of_a_prefix_is_one.ensures
    c.each_sentence_has_one_tree.ensures c.types_are_decided.ensures.sorts c.types_are_decided.ensures.permutations c.graphs_decide_the_laws.ensures.decided c.rewrites_are_graphs.ensures.decided)
