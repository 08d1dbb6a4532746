use Rattle.chyp_judge.proofs.step.judge.Goals as goal

pub judge_by_laws-requires-clause-small_from : goal.judge_by_laws-requires-clause-small_from
judge_by_laws-requires-clause-small_from c = c.requires.within_from.size

pub judge_by_laws-requires-clause-small_to : goal.judge_by_laws-requires-clause-small_to
judge_by_laws-requires-clause-small_to c = c.requires.within_to.size
