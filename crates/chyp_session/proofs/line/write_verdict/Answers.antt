use Rattle.chyp_session.proofs.line.write_verdict.Goals as goal

pub returns-in-Declared : goal.returns-in-Declared
returns-in-Declared g c = rw c.in-Declared.is c.write_at-in-Declared.ensures

pub returns-in-NoModule : goal.returns-in-NoModule
returns-in-NoModule g c = rw c.in-NoModule.is c.write_at-in-NoModule.ensures

pub returns-in-Unproved : goal.returns-in-Unproved
returns-in-Unproved g c = rw c.in-Unproved.is c.write_at-in-Unproved.ensures
