use Rattle.std.proofs.Common.{◌<◌, All, length, sym, subst}
use Rattle.chyp_graph.specs.Removal.{IsWritten}
use Rattle.chyp_term.proofs.Slices.{all-is}
use Rattle.chyp_term.proofs.Closure.{get-item}
use Rattle.chyp_layout.specs.Side.{IsItem}
use Rattle.chyp_layout.proofs.Places.{noted-more, wires-within}
use Rattle.chyp_layout.proofs.sweep.note.Goals as goal

pub write_at-requires : goal.write_at-requires
write_at-requires c =
    let g = c.args.graph.now in
    let t = c.index-items-place.result in
    let i = all-is (IsItem g) c.args.items.now c.loop-place.place t c.loop-place-test.true c.index-items-place.is c.requires.items in
    subst (λ l. All (λ w. w < length c.loop-place.places) l) (sym c.wires_on.ensures) (wires-within g c.is_bounded.ensures.valid c.args.side t
    (length c.loop-place.places) c.loop-place.invariant.0 i)

pub loop-place-preserved : goal.loop-place-preserved
loop-place-preserved c =
    let g = c.args.graph.now in
    let t = c.index-items-place.result in
    let h = get-item c.args.items.now c.loop-place.place t c.loop-place-test.true c.index-items-place.is in
    noted-more g c.args.side c.args.items.now c.loop-place.place t c.loop-place.places c.write_at.new.places h c.loop-place.invariant.0 c.loop-place.invariant.1
    (subst (λ l. IsWritten l c.loop-place.place c.loop-place.places c.write_at.new.places) c.wires_on.ensures c.write_at.ensures)
