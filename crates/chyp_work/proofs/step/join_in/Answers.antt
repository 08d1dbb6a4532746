use Rattle.std.proofs.Common.{◌∙◌, sym, ap, length}
use Rattle.chyp_graph.proofs.Numbering.{inputs-within, outputs-within}
use Rattle.chyp_work.proofs.Joining.{joined-board, may-make, may-use}
use Rattle.chyp_work.proofs.step.join_in.Goals as goal

pub renamed_ends-ends-requires-clause-inputs : goal.renamed_ends-ends-requires-clause-inputs
renamed_ends-ends-requires-clause-inputs c =
    rw c.requires.taken.inputs
    (inputs-within c.args.site.now.right.now c.valid.ensures.valid (length c.deref.result.now) (sym (ap length c.deref.ensures.value ∙ c.put-numbers.ensures.wire_count)))

pub renamed_ends-ends-requires-clause-outputs : goal.renamed_ends-ends-requires-clause-outputs
renamed_ends-ends-requires-clause-outputs c =
    rw c.requires.taken.outputs
    (outputs-within c.args.site.now.right.now c.valid.ensures.valid (length c.deref.result.now) (sym (ap length c.deref.ensures.value ∙ c.put-numbers.ensures.wire_count)))

pub reroute_producers-requires : goal.reroute_producers-requires
reroute_producers-requires c =
    let site = c.args.site.now in
    let taken = c.requires.taken in
    let n = c.put-numbers.result in
    let e = c.renamed_ends-ends.ensures in
    may-make c.args.board.now c.put-numbers.new.board site.left.now site.right.now site.at.now.edges site.at.now.wires n.edges.items n.wires.items c.requires.work c.requires.step
    c.put-numbers.ensures c.deref-2.result.now c.deref-3.result.now (c.deref-2.ensures.value ∙ taken.image_inputs)
    (c.deref-3.ensures.value ∙ rw (c.deref.ensures.value, taken.inputs) at e.inputs)

pub reroute_consumers-requires : goal.reroute_consumers-requires
reroute_consumers-requires c =
    let site = c.args.site.now in
    let taken = c.requires.taken in
    let n = c.put-numbers.result in
    let e = c.renamed_ends-ends.ensures in
    let m = c.reroute_producers.ensures in
    may-use c.args.board.now c.put-numbers.new.board site.left.now site.right.now site.at.now.edges site.at.now.wires n.edges.items n.wires.items c.requires.work c.requires.step
    c.put-numbers.ensures c.reroute_producers.new.board c.deref-2.result.now c.deref-3.result.now (c.deref-2.ensures.value ∙ taken.image_inputs)
    (c.deref-3.ensures.value ∙ rw (c.deref.ensures.value, taken.inputs) at e.inputs) (record { graph = m.graph; kept = m.kept; makers = m.makers; users = m.users; filed = m.filed })
    c.deref-4.result.now c.deref-5.result.now (c.deref-4.ensures.value ∙ taken.image_outputs)
    (c.deref-5.ensures.value ∙ rw (c.deref.ensures.value, taken.outputs) at e.outputs)

pub returns : goal.returns
returns c =
    let site = c.args.site.now in
    let taken = c.requires.taken in
    let n = c.put-numbers.result in
    let e = c.renamed_ends-ends.ensures in
    let m = c.reroute_producers.ensures in
    let u = c.reroute_consumers.ensures in
    joined-board c.args.board.now c.put-numbers.new.board site.left.now site.right.now site.at.now.edges site.at.now.wires n.edges.items n.wires.items c.requires.work c.requires.step
    c.put-numbers.ensures c.reroute_producers.new.board c.deref-2.result.now c.deref-3.result.now (c.deref-2.ensures.value ∙ taken.image_inputs)
    (c.deref-3.ensures.value ∙ rw (c.deref.ensures.value, taken.inputs) at e.inputs) (record { graph = m.graph; kept = m.kept; makers = m.makers; users = m.users; filed = m.filed })
    c.reroute_consumers.new.board c.deref-4.result.now c.deref-5.result.now (c.deref-4.ensures.value ∙ taken.image_outputs)
    (c.deref-5.ensures.value ∙ rw (c.deref.ensures.value, taken.outputs) at e.outputs) (record { graph = u.graph; kept = u.kept; users = u.users; makers = u.makers; filed = u.filed })
