use Rattle.std.proofs.Common.{◌≡◌, ◌∙◌, ◌<◌, ◌+◌, ◌++◌, All, map, sym, subst, ap, ap₂, length, slice_index}
use Rattle.std.proofs.lemmas.Result.{IfOk-weaker}
use Rattle.chyp_term.specs.Perm.{count_from}
use Rattle.chyp_graph.specs.PlainGraph.{PlainGraph, renamed}
use Rattle.chyp_graph.specs.Validity.{IsValid}
use Rattle.chyp_graph.specs.Composition.{beside_graph}
use Rattle.chyp_graph.proofs.Numbering.{beside-lists, beside-number, edges-within, inputs-within, outputs-within, table-length}
use Rattle.chyp_graph.proofs.BesideValid.{beside_valid}
use Rattle.chyp_graph.proofs.graph.Graph.beside.Goals as goal

pub push_edges-requires : goal.push_edges-requires
push_edges-requires c =
    let g : PlainGraph = record { wires = c.self.inside.wires.items; edges = c.self.inside.edges.items; inputs = c.self.inside.inputs.items; outputs = c.self.inside.outputs.items } in
    let h : PlainGraph = record { wires = c.other.inside.wires.items; edges = c.other.inside.edges.items; inputs = c.other.inside.inputs.items; outputs = c.other.inside.outputs.items } in
    let v : IsValid h = c.other.invariant.valid in
    let n : c.in_ok-numbers.numbers.items ≡ map (λ w. length g.wires + w) (count_from 0 (length h.wires)) =
    beside-number (length g.wires) (length h.wires) c.in_ok-numbers.numbers.items
    (c.in_ok-numbers.ensures.numbers ∙ ap₂ (λ x y. count_from (length x) (length y)) c.in_ok-wires.ensures c.deref.ensures.value) in
    let size : length h.wires ≡ length c.deref-3.result.now = sym (ap length c.deref-3.ensures.value ∙ table-length (λ w. length g.wires + w) (length h.wires) c.in_ok-numbers.numbers.items n) in
    subst (λ l. All (λ e. All (λ w. w < length c.deref-3.result.now) e.sources × All (λ w. w < length c.deref-3.result.now) e.targets) l)
    (sym c.deref-2.ensures.value) (edges-within h v (length c.deref-3.result.now) size)

pub push_wires-requires : goal.push_wires-requires
push_wires-requires c =
    let g : PlainGraph = record { wires = c.self.inside.wires.items; edges = c.self.inside.edges.items; inputs = c.self.inside.inputs.items; outputs = c.self.inside.outputs.items } in
    let h : PlainGraph = record { wires = c.other.inside.wires.items; edges = c.other.inside.edges.items; inputs = c.other.inside.inputs.items; outputs = c.other.inside.outputs.items } in
    let v : IsValid h = c.other.invariant.valid in
    let n : c.in_ok-numbers.numbers.items ≡ map (λ w. length g.wires + w) (count_from 0 (length h.wires)) =
    beside-number (length g.wires) (length h.wires) c.in_ok-numbers.numbers.items
    (c.in_ok-numbers.ensures.numbers ∙ ap₂ (λ x y. count_from (length x) (length y)) c.in_ok-wires.ensures c.deref.ensures.value) in
    let size : length h.wires ≡ length c.deref-6.result.now = sym (ap length c.deref-6.ensures.value ∙ table-length (λ w. length g.wires + w) (length h.wires) c.in_ok-numbers.numbers.items n) in
    subst (λ l. All (λ w. w < length c.deref-6.result.now) l) (sym c.deref-5.ensures.value) (inputs-within h v (length c.deref-6.result.now) size)

pub push_wires-requires-2 : goal.push_wires-requires-2
push_wires-requires-2 c =
    let g : PlainGraph = record { wires = c.self.inside.wires.items; edges = c.self.inside.edges.items; inputs = c.self.inside.inputs.items; outputs = c.self.inside.outputs.items } in
    let h : PlainGraph = record { wires = c.other.inside.wires.items; edges = c.other.inside.edges.items; inputs = c.other.inside.inputs.items; outputs = c.other.inside.outputs.items } in
    let v : IsValid h = c.other.invariant.valid in
    let n : c.in_ok-numbers.numbers.items ≡ map (λ w. length g.wires + w) (count_from 0 (length h.wires)) =
    beside-number (length g.wires) (length h.wires) c.in_ok-numbers.numbers.items
    (c.in_ok-numbers.ensures.numbers ∙ ap₂ (λ x y. count_from (length x) (length y)) c.in_ok-wires.ensures c.deref.ensures.value) in
    let size : length h.wires ≡ length c.deref-9.result.now = sym (ap length c.deref-9.ensures.value ∙ table-length (λ w. length g.wires + w) (length h.wires) c.in_ok-numbers.numbers.items n) in
    subst (λ l. All (λ w. w < length c.deref-9.result.now) l) (sym c.deref-8.ensures.value) (outputs-within h v (length c.deref-9.result.now) size)

pub of_parts-requires-clause-valid : goal.of_parts-requires-clause-valid
of_parts-requires-clause-valid c =
    let g : PlainGraph = record { wires = c.self.inside.wires.items; edges = c.self.inside.edges.items; inputs = c.self.inside.inputs.items; outputs = c.self.inside.outputs.items } in
    let h : PlainGraph = record { wires = c.other.inside.wires.items; edges = c.other.inside.edges.items; inputs = c.other.inside.inputs.items; outputs = c.other.inside.outputs.items } in
    let v : IsValid h = c.other.invariant.valid in
    let n : c.in_ok-numbers.numbers.items ≡ map (λ w. length g.wires + w) (count_from 0 (length h.wires)) =
    beside-number (length g.wires) (length h.wires) c.in_ok-numbers.numbers.items
    (c.in_ok-numbers.ensures.numbers ∙ ap₂ (λ x y. count_from (length x) (length y)) c.in_ok-wires.ensures c.deref.ensures.value) in
    let lists : ◌≡◌ {A = PlainGraph} (record { wires = c.from_vec.result; edges = c.from_vec-2.result; inputs = c.from_vec-3.result; outputs = c.from_vec-4.result }) (beside_graph g h) =
    beside-lists g h v c.in_ok-numbers.numbers.items n c.from_vec.result c.from_vec-2.result c.from_vec-3.result c.from_vec-4.result
    (c.from_vec.ensures ∙ c.in_ok-numbers.ensures.wires ∙ ap₂ (λ x y. x ++ y) c.in_ok-wires.ensures c.deref.ensures.value)
    (c.from_vec-2.ensures ∙ c.in_ok-push_edges.ensures ∙ ap₂ (λ x y. x ++ y) c.in_ok-edges.ensures (ap₂ (λ k es. map (renamed (slice_index k)) es) c.deref-3.ensures.value c.deref-2.ensures.value))
    (c.from_vec-3.ensures ∙ c.in_ok-push_wires.ensures ∙ ap₂ (λ x y. x ++ y) (c.in_ok-inputs.ensures.items ∙ c.deref-4.ensures.value)
    (ap₂ (λ k ws. map (slice_index k) ws) c.deref-6.ensures.value c.deref-5.ensures.value))
    (c.from_vec-4.ensures ∙ c.in_ok-push_wires-2.ensures ∙ ap₂ (λ x y. x ++ y) (c.in_ok-outputs.ensures.items ∙ c.deref-7.ensures.value)
    (ap₂ (λ k ws. map (slice_index k) ws) c.deref-9.ensures.value c.deref-8.ensures.value)) in
    subst IsValid (sym lists) (beside_valid g h c.self.invariant.valid v)

pub returns : goal.returns
returns c =
    let g : PlainGraph = record { wires = c.self.inside.wires.items; edges = c.self.inside.edges.items; inputs = c.self.inside.inputs.items; outputs = c.self.inside.outputs.items } in
    let h : PlainGraph = record { wires = c.other.inside.wires.items; edges = c.other.inside.edges.items; inputs = c.other.inside.inputs.items; outputs = c.other.inside.outputs.items } in
    let v : IsValid h = c.other.invariant.valid in
    let n : c.in_ok-numbers.numbers.items ≡ map (λ w. length g.wires + w) (count_from 0 (length h.wires)) =
    beside-number (length g.wires) (length h.wires) c.in_ok-numbers.numbers.items
    (c.in_ok-numbers.ensures.numbers ∙ ap₂ (λ x y. count_from (length x) (length y)) c.in_ok-wires.ensures c.deref.ensures.value) in
    let lists : ◌≡◌ {A = PlainGraph} (record { wires = c.from_vec.result; edges = c.from_vec-2.result; inputs = c.from_vec-3.result; outputs = c.from_vec-4.result }) (beside_graph g h) =
    beside-lists g h v c.in_ok-numbers.numbers.items n c.from_vec.result c.from_vec-2.result c.from_vec-3.result c.from_vec-4.result
    (c.from_vec.ensures ∙ c.in_ok-numbers.ensures.wires ∙ ap₂ (λ x y. x ++ y) c.in_ok-wires.ensures c.deref.ensures.value)
    (c.from_vec-2.ensures ∙ c.in_ok-push_edges.ensures ∙ ap₂ (λ x y. x ++ y) c.in_ok-edges.ensures (ap₂ (λ k es. map (renamed (slice_index k)) es) c.deref-3.ensures.value c.deref-2.ensures.value))
    (c.from_vec-3.ensures ∙ c.in_ok-push_wires.ensures ∙ ap₂ (λ x y. x ++ y) (c.in_ok-inputs.ensures.items ∙ c.deref-4.ensures.value)
    (ap₂ (λ k ws. map (slice_index k) ws) c.deref-6.ensures.value c.deref-5.ensures.value))
    (c.from_vec-4.ensures ∙ c.in_ok-push_wires-2.ensures ∙ ap₂ (λ x y. x ++ y) (c.in_ok-outputs.ensures.items ∙ c.deref-7.ensures.value)
    (ap₂ (λ k ws. map (slice_index k) ws) c.deref-9.ensures.value c.deref-8.ensures.value)) in
    IfOk-weaker c.of_parts.result _ _ (λ _ done. done ∙ lists ∙ ap₂ (λ x y. beside_graph x y) c.self.view_is c.other.view_is) c.of_parts.ensures
