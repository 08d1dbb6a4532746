use Rattle.chyp_judge.proofs.Tried.{has-room}
use Rattle.chyp_judge.proofs.rewrite.is_reached.Goals as goal

pub same-requires-clause-second : goal.same-requires-clause-second
same-requires-clause-second c =
    has-room c.args.rewrite.now c.args.at.now c.requires.occurs c.requires.sizes c.args.scratch.now.edges c.args.scratch.now.wires c.requires.room c.in_ok-new.new c.in_ok-new.ensures
