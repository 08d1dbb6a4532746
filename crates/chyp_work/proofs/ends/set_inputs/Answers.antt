use Rattle.chyp_work.proofs.Noting.{inputs-known}
use Rattle.chyp_work.proofs.ends.set_inputs.Goals as goal

pub returns-clause-makers : goal.returns-clause-makers
returns-clause-makers c = inputs-known c.args.board.now c.args.inputs c.note_makers.new.wires (rw c.deref.ensures.value at c.note_makers.ensures.items)
