use Rattle.chyp_app.proofs.OutputLemmas.{counted_check, explained_check, one_output, some_check}
use Rattle.chyp_app.proofs.check.each_run_has_one_output.Goals as goal

pub returns-clause-one : goal.returns-clause-one
returns-clause-one c =
    one_output c.every_text_has_one_token_list.ensures c.each_text_has_one_list_of_chunks.ensures c.modules_are_determined.ensures.results

pub returns-clause-each : goal.returns-clause-each
returns-clause-each c =
    some_check c.every_text_has_one_token_list.ensures c.each_text_has_one_list_of_chunks.ensures c.modules_are_determined.ensures.results

pub returns-clause-counts : goal.returns-clause-counts
returns-clause-counts c =
    counted_check c.every_text_has_one_token_list.ensures c.each_text_has_one_list_of_chunks.ensures c.modules_are_determined.ensures.results

pub returns-clause-explained : goal.returns-clause-explained
returns-clause-explained c = explained_check c.modules_are_determined.ensures.explained
