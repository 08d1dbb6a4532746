use Rattle.std.proofs.Common.{◌∙◌, ◌<◌, ◌++◌, ◌∷◌, [], ap, arith, length}
use Rattle.chyp_graph.proofs.Numbering.{behind-input, behind-other, behind-few}
use Rattle.chyp_graph.proofs.Ports.{among-end, not-among_end}
use Rattle.chyp_term.proofs.Slices.{index-is}
use Rattle.chyp_graph.proofs.graph.Graph.joined_numbers.Goals as goal
use Rattle.chyp_graph.proofs.graph.Graph.joined_numbers.Goals.{then-is_none+in_ok-push, else-is_none+in_ok-push-2+in_ok-share+in_ok-push-3}

pub overflow_cast-len : goal.overflow_cast-len
overflow_cast-len c =
    let t = c.loop-w-test.true in
    let n = c.wire_count-w-end.ensures.count in
    let few = behind-few c.args.wires.now.items c.args.at_inputs.now c.args.self.now c.loop-w.w c.loop-w.numbers.items c.loop-w.numbers.items c.loop-w.wires.items c.loop-w.wires.items
    c.loop-w.invariant.0 c.loop-w.invariant.1 (omega arith) c.requires.few in
    let e = c.len-else-is_none.ensures in
    let l = c.loop-w.wires.ok.0 in
    omega arith

pub loop-w-preserved : goal.loop-w-preserved
loop-w-preserved c =
    let t = c.loop-w-test.true in
    let n = c.wire_count-w-end.ensures.count in
    let size = c.requires.size in
    let below : c.loop-w.w < length c.args.at_inputs.now = omega arith in
    elim c.if-is_none.branch [
      | then-is_none+in_ok-push w ↦
          behind-input c.args.wires.now.items c.args.at_inputs.now c.args.self.now c.loop-w.w c.loop-w.numbers.items c.if-is_none.numbers.items c.loop-w.wires.items c.if-is_none.wires.items
          c.loop-w.invariant.0 c.loop-w.invariant.1
          (among-end c.args.self.now.inputs c.loop-w.w c.producer.result c.is_none.result c.producer.ensures.input c.is_none.ensures w.if-is_none.true)
          (ap (λ v. v.items) w.numbers-is ∙ w.in_ok-push.ensures.items ∙ ap (λ x. c.loop-w.numbers.items ++ x ∷ [])
          (index-is c.args.at_inputs.now c.loop-w.w w.index-at_inputs-w.result below w.index-at_inputs-w.is))
          (ap (λ v. v.items) w.wires-is)
      | else-is_none+in_ok-push-2+in_ok-share+in_ok-push-3 w ↦
          behind-other c.args.wires.now.items c.args.at_inputs.now c.args.self.now c.loop-w.w c.loop-w.numbers.items c.if-is_none.numbers.items c.loop-w.wires.items c.if-is_none.wires.items
          c.loop-w.invariant.0 c.loop-w.invariant.1 (omega arith)
          (not-among_end c.args.self.now.inputs c.loop-w.w c.producer.result c.is_none.result c.producer.ensures.input c.is_none.ensures w.if-is_none.false)
          w.wire_sort.result.now w.wire_sort.ensures
          (ap (λ v. v.items) w.numbers-is ∙ w.in_ok-push-2.ensures.items ∙ ap (λ x. c.loop-w.numbers.items ++ x ∷ []) (w.len-else-is_none.ensures ∙ c.loop-w.wires.ok.0))
          (ap (λ v. v.items) w.wires-is ∙ w.in_ok-push-3.ensures.items ∙ ap (λ x. c.loop-w.wires.items ++ x ∷ []) w.in_ok-share.ensures)
    ]
