use Rattle.chyp_work.proofs.Noting.{outputs-known}
use Rattle.chyp_work.proofs.ends.set_outputs.Goals as goal

pub returns-clause-users : goal.returns-clause-users
returns-clause-users c = outputs-known c.args.board.now c.args.outputs c.note_users.new.wires (rw c.deref.ensures.value at c.note_users.ensures.items)
