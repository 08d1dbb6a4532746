use Rattle.std.proofs.Common.{◌≡◌, ◌∙◌, ◌<◌, sym, arith, length}
use Rattle.chyp_work.proofs.Fillings.{rename-step}
use Rattle.chyp_work.proofs.board.rename.Goals as goal

pub loop-place-preserved : goal.loop-place-preserved
loop-place-preserved c =
    let x = c.place-item.result in
    let p : c.place.inside.0 ≡ x = c.place.view_is ∙ sym c.place-item.is in
    let h : c.loop-place.place-index < length c.loop-place.places = let l = c.loop-place.auto.places in let t = c.loop-place-test.true in omega arith in
    rw c.place-in-loop-place.view_is (rename-step c.args.wires.now c.args.places.now c.loop-place.places c.loop-place.place-index x c.index-wires-place.result c.requires
    c.loop-place.invariant h c.place-item.is (rw p at c.index-wires-place.is))
