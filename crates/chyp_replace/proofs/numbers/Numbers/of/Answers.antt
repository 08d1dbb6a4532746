use Rattle.std.proofs.Common.{◌<◌, ◌∙◌, All, length, map, slice_index, sym, ap, subst}
use Rattle.chyp_graph.proofs.Numbering.{input-apart, input-below, inputs-within, output-below}
use Rattle.chyp_replace.proofs.Binding.{images-apart, images-within, output-apart, same-inputs, same-mapped, same-outputs}
use Rattle.chyp_replace.proofs.numbers.Numbers.of.Goals as goal

pub rebound-requires-clause-same : goal.rebound-requires-clause-same
rebound-requires-clause-same c =
    same-mapped (slice_index c.args.images.now) (slice_index c.args.layout.now.moved.items) c.args.left.now.outputs c.args.right.now.outputs c.deref-3.result.now c.deref-4.result.now
    (c.deref-3.ensures.value ∙ c.in_ok-outputs.ensures ∙ ap (map (slice_index c.args.images.now)) c.outputs.ensures.outputs)
    (c.deref-4.ensures.value ∙ c.in_ok-new_outputs.ensures
    ∙ ap (λ t. map (slice_index t) c.outputs-2.result.now) c.deref.ensures.value ∙ ap (map (slice_index c.args.layout.now.moved.items)) c.outputs-2.ensures.outputs)
    (same-outputs c.args.left.now c.args.right.now c.requires.rule)

pub rebound-requires-clause-within : goal.rebound-requires-clause-within
rebound-requires-clause-within c =
    let l = c.args.left.now in
    images-within c.args.images.now l.outputs c.deref-3.result.now
    (c.deref-3.ensures.value ∙ c.in_ok-outputs.ensures ∙ ap (map (slice_index c.args.images.now)) c.outputs.ensures.outputs)
    (λ w k. subst (λ n. w < n) (sym c.requires.images) (output-below l c.requires.rule.left w k))
    (length c.args.layout.now.kept.items) (length c.deref-2.result.now) (sym (ap length c.deref-2.ensures.value)) c.requires.within

pub rebound-requires-clause-apart : goal.rebound-requires-clause-apart
rebound-requires-clause-apart c =
    let l = c.args.left.now in
    images-apart c.args.images.now l.outputs c.deref-3.result.now
    (c.deref-3.ensures.value ∙ c.in_ok-outputs.ensures ∙ ap (map (slice_index c.args.images.now)) c.outputs.ensures.outputs)
    (λ w k. subst (λ n. w < n) (sym c.requires.images) (output-below l c.requires.rule.left w k))
    c.requires.apart (output-apart l c.requires.rule.left)

pub renumbered-requires-3 : goal.renumbered-requires-3
renumbered-requires-3 c =
    subst (All (λ w. w < length c.args.images.now)) (sym c.inputs.ensures.inputs) (inputs-within c.args.left.now c.requires.rule.left (length c.args.images.now) (sym c.requires.images))

pub renumbered-requires-4 : goal.renumbered-requires-4
renumbered-requires-4 c =
    subst (All (λ w. w < length c.deref-5.result.now)) (sym c.inputs-2.ensures.inputs)
    (inputs-within c.args.right.now c.requires.rule.right (length c.deref-5.result.now) (sym (ap length c.deref-5.ensures.value ∙ c.requires.moved)))

pub rebound-requires-2-clause-same : goal.rebound-requires-2-clause-same
rebound-requires-2-clause-same c =
    same-mapped (slice_index c.args.images.now) (slice_index c.args.layout.now.moved.items) c.args.left.now.inputs c.args.right.now.inputs c.deref-7.result.now c.deref-8.result.now
    (c.deref-7.ensures.value ∙ c.in_ok-inputs.ensures ∙ ap (map (slice_index c.args.images.now)) c.inputs.ensures.inputs)
    (c.deref-8.ensures.value ∙ c.in_ok-new_inputs.ensures
    ∙ ap (λ t. map (slice_index t) c.inputs-2.result.now) c.deref-5.ensures.value ∙ ap (map (slice_index c.args.layout.now.moved.items)) c.inputs-2.ensures.inputs)
    (same-inputs c.args.left.now c.args.right.now c.requires.rule)

pub rebound-requires-2-clause-within : goal.rebound-requires-2-clause-within
rebound-requires-2-clause-within c =
    let l = c.args.left.now in
    images-within c.args.images.now l.inputs c.deref-7.result.now
    (c.deref-7.ensures.value ∙ c.in_ok-inputs.ensures ∙ ap (map (slice_index c.args.images.now)) c.inputs.ensures.inputs)
    (λ w k. subst (λ n. w < n) (sym c.requires.images) (input-below l c.requires.rule.left w k))
    (length c.args.layout.now.kept.items) (length c.deref-6.result.now) (sym (ap length c.deref-6.ensures.value)) c.requires.within

pub rebound-requires-2-clause-apart : goal.rebound-requires-2-clause-apart
rebound-requires-2-clause-apart c =
    let l = c.args.left.now in
    images-apart c.args.images.now l.inputs c.deref-7.result.now
    (c.deref-7.ensures.value ∙ c.in_ok-inputs.ensures ∙ ap (map (slice_index c.args.images.now)) c.inputs.ensures.inputs)
    (λ w k. subst (λ n. w < n) (sym c.requires.images) (input-below l c.requires.rule.left w k))
    c.requires.apart (input-apart l c.requires.rule.left)
