use Rattle.chyp_check.proofs.tests.one_statement_has_its_verdict.Given as goal

abbrev pub ghosts-verdict_of : goal.ghosts-verdict_of
ghosts-verdict_of types a = record { name = a.blank.name; parts = a.blank.parts }
