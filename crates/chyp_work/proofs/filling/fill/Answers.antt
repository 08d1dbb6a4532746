use Rattle.std.proofs.Common.{◌∙◌, sym, ap, length}
use Rattle.chyp_graph.proofs.Numbering.{inputs-within, outputs-within}
use Rattle.chyp_work.proofs.Opening.{filled}
use Rattle.chyp_work.proofs.filling.fill.Goals as goal

pub renamed_ends-inputs-requires-clause-inputs : goal.renamed_ends-inputs-requires-clause-inputs
renamed_ends-inputs-requires-clause-inputs c =
    rw c.requires.inputs
    (inputs-within c.args.graph.now c.valid.ensures.valid (length c.deref.result.now) (sym (ap length c.deref.ensures.value ∙ c.put-numbers.ensures.wire_count)))

pub renamed_ends-inputs-requires-clause-outputs : goal.renamed_ends-inputs-requires-clause-outputs
renamed_ends-inputs-requires-clause-outputs c =
    rw c.requires.outputs
    (outputs-within c.args.graph.now c.valid.ensures.valid (length c.deref.result.now) (sym (ap length c.deref.ensures.value ∙ c.put-numbers.ensures.wire_count)))

pub returns : goal.returns
returns c =
    let g = c.args.graph.now in
    let n = c.put-numbers.result in
    let p = c.put-numbers.ensures in
    let e = c.renamed_ends-inputs.ensures in
    let i = c.set_inputs.ensures in
    let o = c.set_outputs.ensures in
    filled g c.args.board.now c.put-numbers.new.board c.set_inputs.new.board c.set_outputs.new.board n.edges.items n.wires.items _ _
    (record { inputs = i.inputs; rest = i.rest; sorts = i.sorts; known = i.known; makers = i.makers; users = i.users })
    (record { outputs = o.outputs; rest = o.rest; sorts = o.sorts; known = o.known; users = o.users; makers = o.makers })
    (rw (c.deref.ensures.value, c.requires.inputs) at e.inputs) (rw (c.deref.ensures.value, c.requires.outputs) at e.outputs)
    c.valid.ensures.valid c.valid.ensures.few_wires c.valid.ensures.few_edges p.edge_count p.wire_count c.requires.nothing p.graph p.wires_apart p.edges_apart (o.filed
    (i.filed p.filed)) p.makers p.users
