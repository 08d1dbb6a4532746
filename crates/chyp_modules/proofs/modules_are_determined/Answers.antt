use Rattle.chyp_verdicts.proofs.KnownBelow.{known-of}
use Rattle.chyp_modules.proofs.Checking.{texts-have-one-result}
use Rattle.chyp_modules.proofs.Derived.{proved-derived}
use Rattle.chyp_modules.proofs.Explaining.{verdicts-explained}
use Rattle.chyp_modules.proofs.Generators.{generators-bound}
use Rattle.chyp_modules.proofs.Meanings.{origins-determine}
use Rattle.chyp_modules.proofs.Verdicts.{modules-determined, texts-determined}
use Rattle.chyp_modules.proofs.modules_are_determined.Goals as goal

pub returns-clause-modules : goal.returns-clause-modules
returns-clause-modules c = modules-determined
    (known-of c.every_text_has_one_token_list.ensures c.each_text_has_one_list_of_chunks.ensures c.each_chunk_is_a_sentence_or_fails.ensures c.each_beginning_of_a_prefix_is_one.ensures
    c.each_sentence_has_one_tree.ensures c.types_are_decided.ensures.sorts c.types_are_decided.ensures.permutations c.graphs_decide_the_laws.ensures.decided c.rewrites_are_graphs.ensures.decided)

pub returns-clause-texts : goal.returns-clause-texts
returns-clause-texts c = texts-determined
    (known-of c.every_text_has_one_token_list.ensures c.each_text_has_one_list_of_chunks.ensures c.each_chunk_is_a_sentence_or_fails.ensures c.each_beginning_of_a_prefix_is_one.ensures
    c.each_sentence_has_one_tree.ensures c.types_are_decided.ensures.sorts c.types_are_decided.ensures.permutations c.graphs_decide_the_laws.ensures.decided c.rewrites_are_graphs.ensures.decided)

pub returns-clause-results : goal.returns-clause-results
returns-clause-results c = texts-have-one-result
    (known-of c.every_text_has_one_token_list.ensures c.each_text_has_one_list_of_chunks.ensures c.each_chunk_is_a_sentence_or_fails.ensures c.each_beginning_of_a_prefix_is_one.ensures
    c.each_sentence_has_one_tree.ensures c.types_are_decided.ensures.sorts c.types_are_decided.ensures.permutations c.graphs_decide_the_laws.ensures.decided c.rewrites_are_graphs.ensures.decided)

pub returns-clause-derived : goal.returns-clause-derived
returns-clause-derived c = proved-derived
    (known-of c.every_text_has_one_token_list.ensures c.each_text_has_one_list_of_chunks.ensures c.each_chunk_is_a_sentence_or_fails.ensures c.each_beginning_of_a_prefix_is_one.ensures
    c.each_sentence_has_one_tree.ensures c.types_are_decided.ensures.sorts c.types_are_decided.ensures.permutations c.graphs_decide_the_laws.ensures.decided c.rewrites_are_graphs.ensures.decided)

pub returns-clause-explained : goal.returns-clause-explained
returns-clause-explained c = verdicts-explained
    (known-of c.every_text_has_one_token_list.ensures c.each_text_has_one_list_of_chunks.ensures c.each_chunk_is_a_sentence_or_fails.ensures c.each_beginning_of_a_prefix_is_one.ensures
    c.each_sentence_has_one_tree.ensures c.types_are_decided.ensures.sorts c.types_are_decided.ensures.permutations c.graphs_decide_the_laws.ensures.decided c.rewrites_are_graphs.ensures.decided)

pub returns-clause-senses : goal.returns-clause-senses
returns-clause-senses c = origins-determine
    (known-of c.every_text_has_one_token_list.ensures c.each_text_has_one_list_of_chunks.ensures c.each_chunk_is_a_sentence_or_fails.ensures c.each_beginning_of_a_prefix_is_one.ensures
    c.each_sentence_has_one_tree.ensures c.types_are_decided.ensures.sorts c.types_are_decided.ensures.permutations c.graphs_decide_the_laws.ensures.decided c.rewrites_are_graphs.ensures.decided)

pub returns-clause-generators : goal.returns-clause-generators
returns-clause-generators c = generators-bound
    (known-of c.every_text_has_one_token_list.ensures c.each_text_has_one_list_of_chunks.ensures c.each_chunk_is_a_sentence_or_fails.ensures c.each_beginning_of_a_prefix_is_one.ensures
    c.each_sentence_has_one_tree.ensures c.types_are_decided.ensures.sorts c.types_are_decided.ensures.permutations c.graphs_decide_the_laws.ensures.decided c.rewrites_are_graphs.ensures.decided)
