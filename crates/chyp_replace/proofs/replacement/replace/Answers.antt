use Rattle.std.proofs.Common.{◌≡◌, ◌∙◌, ◌<◌, ◌++◌, All, map, slice_index, sym, subst, ap, ap₂, length}
use Rattle.std.proofs.lemmas.Result.{IfOk-weaker}
use Rattle.chyp_term.specs.Perm.{permuted}
use Rattle.chyp_graph.specs.PlainGraph.{PlainGraph}
use Rattle.chyp_pattern.specs.Replacement.{kept_edges, replaced}
use Rattle.chyp_graph.specs.Validity.{IsValid}
use Rattle.chyp_graph.proofs.Numbering.{inputs-within, outputs-within}
use Rattle.chyp_replace.specs.Layout.{AreBound, IsLayout}
use Rattle.chyp_replace.specs.Renumbered.{renumbered_edge}
use Rattle.chyp_replace.proofs.Replacing.{edges-within, few-edges, few-wires, kept-size, moved-size, replaced-lists, wires-within}
use Rattle.chyp_replace.proofs.replacement.replace.Goals as goal

pub of-requires-clause-within : goal.of-requires-clause-within
of-requires-clause-within c =
    subst (All (λ w. w < length c.args.graph.now.wires)) (sym c.as_slice-images.ensures) (wires-within _ _ _ _ c.requires.occurrence)

pub of-requires-2-clause-within : goal.of-requires-2-clause-within
of-requires-2-clause-within c =
    subst (λ n. All (λ w. w < n) c.as_slice-images.result.now) (sym (kept-size _ _ _ _ c.in_ok-layout.ensures))
    (subst (All (λ w. w < length c.args.graph.now.wires)) (sym c.as_slice-images.ensures) (wires-within _ _ _ _ c.requires.occurrence))

pub of-requires-2-clause-moved : goal.of-requires-2-clause-moved
of-requires-2-clause-moved c = moved-size _ _ _ _ c.in_ok-layout.ensures

pub renumbered-requires : goal.renumbered-requires
renumbered-requires c =
    let size = ap length c.deref.ensures.value ∙ c.in_ok-numbers.ensures.makers.size ∙ kept-size _ _ _ _ c.in_ok-layout.ensures in
    subst (All (λ w. w < length c.deref.result.now)) (sym c.inputs.ensures.inputs) (inputs-within c.args.graph.now c.inputs.ensures.valid (length c.deref.result.now) (sym size))

pub renumbered-requires-2 : goal.renumbered-requires-2
renumbered-requires-2 c =
    let size = ap length c.deref-2.ensures.value ∙ c.in_ok-numbers.ensures.users.size ∙ kept-size _ _ _ _ c.in_ok-layout.ensures in
    subst (All (λ w. w < length c.deref-2.result.now)) (sym c.outputs.ensures.outputs) (outputs-within c.args.graph.now c.inputs.ensures.valid (length c.deref-2.result.now) (sym size))

pub kept_edges-requires-clause-valid : goal.kept_edges-requires-clause-valid
kept_edges-requires-clause-valid c = c.inputs.ensures.valid

pub kept_edges-requires-clause-images : goal.kept_edges-requires-clause-images
kept_edges-requires-clause-images c =
    subst (All (λ k. k < length c.args.graph.now.edges)) (sym c.as_slice.ensures) (edges-within _ _ _ _ c.requires.occurrence)

pub kept_edges-requires-clause-users : goal.kept_edges-requires-clause-users
kept_edges-requires-clause-users c =
    c.in_ok-numbers.ensures.users.size ∙ kept-size _ _ _ _ c.in_ok-layout.ensures

pub kept_edges-requires-clause-makers : goal.kept_edges-requires-clause-makers
kept_edges-requires-clause-makers c =
    c.in_ok-numbers.ensures.makers.size ∙ kept-size _ _ _ _ c.in_ok-layout.ensures

pub push_edges-requires-clause-numbers : goal.push_edges-requires-clause-numbers
push_edges-requires-clause-numbers c =
    ap length c.deref-3.ensures.value ∙ moved-size _ _ _ _ c.in_ok-layout.ensures

-- the four lists
lists : (c : goal.After-from_vec-4) → ◌≡◌ {A = PlainGraph} (record { wires = c.from_vec.result; edges = c.from_vec-2.result; inputs = c.from_vec-3.result; outputs = c.from_vec-4.result })
    (replaced c.args.graph.now c.args.left.now.graph c.args.right.now c.args.at.now.edges c.args.at.now.wires)
lists c =
    let g = c.args.graph.now in
    let l = c.args.left.now.graph in
    let r = c.args.right.now in
    let es = c.args.at.now.edges in
    let ws = c.args.at.now.wires in
    let layout = c.in_ok-layout.layout in
    let users = c.in_ok-numbers.numbers.users.items in
    let makers = c.in_ok-numbers.numbers.makers.items in
    let before = c.in_ok-edges.edges.items in
    let at : IsLayout g r ws layout = subst (λ ws. IsLayout g r ws layout) c.as_slice-images.ensures c.in_ok-layout.ensures in
    let u : AreBound layout ws l.outputs r.outputs users =
    subst (λ h. AreBound layout ws h.outputs r.outputs users) c.graph.ensures.graph
    (subst (λ ws. AreBound layout ws c.graph.result.now.outputs r.outputs users) c.as_slice-images.ensures c.in_ok-numbers.ensures.users) in
    let m : AreBound layout ws l.inputs r.inputs makers =
    subst (λ h. AreBound layout ws h.inputs r.inputs makers) c.graph.ensures.graph
    (subst (λ ws. AreBound layout ws c.graph.result.now.inputs r.inputs makers) c.as_slice-images.ensures c.in_ok-numbers.ensures.makers) in
    replaced-lists g r ws layout at l c.inputs.ensures.valid c.requires.rule users makers u m es c.from_vec.result before c.from_vec-2.result c.from_vec-3.result c.from_vec-4.result
    c.from_vec.ensures
    (c.in_ok-edges.ensures ∙ ap (λ es. map (renumbered_edge users makers) (permuted g.edges (kept_edges g es))) c.as_slice.ensures)
    (c.from_vec-2.ensures ∙ c.in_ok-push_edges.ensures ∙ ap (λ m. before ++ map (renumbered_edge m m) r.edges) c.deref-3.ensures.value)
    (c.from_vec-3.ensures ∙ c.in_ok-inputs.ensures ∙ ap₂ (λ t l. map (slice_index t) l) c.deref.ensures.value c.inputs.ensures.inputs)
    (c.from_vec-4.ensures ∙ c.in_ok-outputs.ensures ∙ ap₂ (λ t l. map (slice_index t) l) c.deref-2.ensures.value c.outputs.ensures.outputs)

pub of_parts-requires-clause-valid : goal.of_parts-requires-clause-valid
of_parts-requires-clause-valid c =
    subst IsValid (sym (lists c))
    (c.replaced_are_valid.ensures.valid c.args.left.now.graph c.args.right.now c.args.graph.now c.args.at.now.edges c.args.at.now.wires c.requires.rule c.inputs.ensures.valid c.requires.occurrence)

pub of_parts-requires-clause-few_wires : goal.of_parts-requires-clause-few_wires
of_parts-requires-clause-few_wires c =
    subst (λ l. length l < 2147483648) (sym c.from_vec.ensures)
    (few-wires c.args.graph.now c.args.right.now c.as_slice-images.result.now c.in_ok-layout.layout c.in_ok-layout.ensures c.requires.few_wires)

pub of_parts-requires-clause-few_edges : goal.of_parts-requires-clause-few_edges
of_parts-requires-clause-few_edges c =
    let users = c.in_ok-numbers.numbers.users.items in
    let makers = c.in_ok-numbers.numbers.makers.items in
    let moved = c.deref-3.result.now in
    few-edges c.args.graph.now c.args.right.now c.as_slice.result.now (renumbered_edge users makers) (renumbered_edge moved moved) c.in_ok-edges.edges.items c.from_vec-2.result
    c.in_ok-edges.ensures (c.from_vec-2.ensures ∙ c.in_ok-push_edges.ensures) c.requires.few_edges

pub returns : goal.returns
returns c = IfOk-weaker c.of_parts.result _ _ (λ _ done. done ∙ lists c.before.before.before.before.before) c.of_parts.ensures
