use Rattle.chyp_extract_tests.proofs.reading.add.Goals as goal

pub insert-requires-clause-closed : goal.insert-requires-clause-closed
insert-requires-clause-closed c = c.in_ok-entry.ensures.fits c.args.env.now
