use Rattle.chyp_app.proofs.run_with_arguments.Given as goal

abbrev pub ghosts-run_outside : goal.ghosts-run_outside
ghosts-run_outside a = record { name = a.blank.name; parts = a.blank.parts }
