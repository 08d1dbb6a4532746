use Rattle.std.proofs.Common.{◌≡◌, ◌∙◌, IfOk, subst, sym}
use Rattle.chyp_graph.specs.PlainGraph.{PlainGraph}
use Rattle.chyp_graph.specs.Validity.{IsValid}
use Rattle.chyp_work.proofs.Placing.{inputs-below, outputs-below, plain-made, ports-below}
use Rattle.chyp_work.proofs.plain.graph_of.Goals as goal

pub parts_of-requires : goal.parts_of-requires
parts_of-requires c = rw c.deref.ensures.value (ports-below c.args.board.now c.requires c.in_ok-places.places.items c.in_ok-places.ensures.bound c.in_ok-places.ensures.places)

pub wires_at-requires : goal.wires_at-requires
wires_at-requires c =
    rw (c.deref-2.ensures.value, c.deref-3.ensures.value) (inputs-below c.args.board.now c.requires c.in_ok-places.places.items c.in_ok-places.ensures.bound c.in_ok-places.ensures.places)

pub wires_at-requires-2 : goal.wires_at-requires-2
wires_at-requires-2 c =
    rw (c.deref-4.ensures.value, c.deref-5.ensures.value) (outputs-below c.args.board.now c.requires c.in_ok-places.places.items c.in_ok-places.ensures.bound c.in_ok-places.ensures.places)

pub of_parts-requires-clause-valid : goal.of_parts-requires-clause-valid
of_parts-requires-clause-valid c =
    let e = plain-made c.args.board.now c.requires c.in_ok-places.places.items c.in_ok-places.ensures.bound c.in_ok-places.ensures.places c.from_vec.result c.from_vec-2.result c.from_vec-3.result
    c.from_vec-4.result (c.from_vec.ensures ∙ c.in_ok-sorts.ensures) (c.from_vec-2.ensures ∙ rw c.deref.ensures.value at c.in_ok-edges.ensures)
    (c.from_vec-3.ensures ∙ rw (c.deref-2.ensures.value, c.deref-3.ensures.value) at c.in_ok-inputs.ensures)
    (c.from_vec-4.ensures ∙ rw (c.deref-4.ensures.value, c.deref-5.ensures.value) at c.in_ok-outputs.ensures) in
    subst IsValid (sym e) c.requires.sound.valid

pub returns : goal.returns
returns c =
    let e = plain-made c.args.board.now c.requires c.in_ok-places.places.items c.in_ok-places.ensures.bound c.in_ok-places.ensures.places c.from_vec.result c.from_vec-2.result c.from_vec-3.result
    c.from_vec-4.result (c.from_vec.ensures ∙ c.in_ok-sorts.ensures) (c.from_vec-2.ensures ∙ rw c.deref.ensures.value at c.in_ok-edges.ensures)
    (c.from_vec-3.ensures ∙ rw (c.deref-2.ensures.value, c.deref-3.ensures.value) at c.in_ok-inputs.ensures)
    (c.from_vec-4.ensures ∙ rw (c.deref-4.ensures.value, c.deref-5.ensures.value) at c.in_ok-outputs.ensures) in
    subst (λ (g : PlainGraph). IfOk c.of_parts.result (λ graph. graph ≡ g)) e c.of_parts.ensures
