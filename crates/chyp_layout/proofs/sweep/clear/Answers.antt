use Rattle.std.proofs.Common.{◌<◌, ◌∙◌, All, length, sym, ap, subst}
use Rattle.std.proofs.lemmas.List.{take_all}
use Rattle.chyp_graph.specs.Removal.{IsWritten}
use Rattle.chyp_term.proofs.Slices.{all-is}
use Rattle.chyp_term.proofs.Closure.{get-item}
use Rattle.chyp_layout.specs.Side.{IsItem}
use Rattle.chyp_layout.proofs.Places.{cleared, cleared-all, cleared-more, wires-within}
use Rattle.chyp_layout.proofs.sweep.clear.Goals as goal

pub write_at-requires : goal.write_at-requires
write_at-requires c =
    let g = c.args.graph.now in
    let t = c.item-item.result in
    let i = all-is (IsItem g) c.args.items.now c.loop-item.item-index t c.loop-item-test.true c.item-item.is c.requires.items in
    subst (λ l. All (λ w. w < length c.loop-item.places) l) (sym c.wires_on.ensures) (wires-within g c.is_bounded.ensures.valid c.args.side t (length c.loop-item.places) c.loop-item.invariant.0 i)

pub loop-item-preserved : goal.loop-item-preserved
loop-item-preserved c =
    let g = c.args.graph.now in
    let t = c.item-item.result in
    let h = get-item c.args.items.now c.loop-item.item-index t c.loop-item-test.true c.item-item.is in
    cleared-more g c.args.side c.args.items.now c.loop-item.item-index t c.args.places.now c.loop-item.places c.write_at.new.places h c.loop-item.invariant.0 c.loop-item.invariant.1
    (subst (λ l. IsWritten l 0 c.loop-item.places c.write_at.new.places) c.wires_on.ensures c.write_at.ensures)

pub returns-clause-clear : goal.returns-clause-clear
returns-clause-clear c =
    λ w h.
    let g = c.args.graph.now in
    let side = c.args.side in
    let items = c.args.items.now in
    c.loop-item.invariant.1 w h ∙ ap (cleared g side w _) (take_all c.loop-item.item-index items c.loop-item-test.false) ∙ ap (λ x. cleared g side w x items) (c.requires.noted w h)
    ∙ cleared-all g side items w
