use Rattle.chyp_check.proofs.tests.the_statements_of_a_text_have_verdicts_over_its_modules.Given as goal

abbrev pub ghosts-checked : goal.ghosts-checked
ghosts-checked types a = record { name = a.blank.name; parts = a.blank.parts }
