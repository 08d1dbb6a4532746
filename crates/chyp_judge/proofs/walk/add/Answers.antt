use Rattle.std.proofs.Common.{refl, true}
use Rattle.std.proofs.Math.ListN.{length-set}
use Rattle.std.specs.Vec.{with_item}
use Rattle.chyp_judge.proofs.Partnering.{one-more}
use Rattle.chyp_judge.proofs.walk.add.Goals as goal

pub returns : goal.returns
returns c =
    let walk = c.args.walk.now in
    let wires = with_item walk.wires c.new.inside.0.0.0 true in
    one-more walk (record { rewrite = walk.rewrite; partners = c.push.new.self; wires = wires; edges = walk.edges })
    c.args.new c.requires.walk c.requires.within c.requires.linked c.requires.earlier refl c.in_ok-push.ensures.items (length-set walk.wires.items _ true) refl
