use Rattle.chyp_work.proofs.work.Work.step.Goals as goal

pub returns-clause-step : goal.returns-clause-step
returns-clause-step c = rw (← c.self.view_is, ← c.graph.ensures.graph) c.step_in.ensures.step
