use Rattle.std.proofs.Common.{ℕ, ◌≡◌, ◌∙◌, ◌<◌, ◌+◌, ◌++◌, All, map, sym, subst, ap, ap₂, length, slice_index}
use Rattle.std.proofs.lemmas.Result.{IfOk-weaker}
use Rattle.chyp_term.specs.Perm.{count_from, permuted}
use Rattle.chyp_graph.specs.PlainGraph.{PlainGraph, renamed, input_sorts, output_sorts}
use Rattle.chyp_graph.specs.Validity.{IsValid}
use Rattle.chyp_graph.specs.Joining.{number_behind}
use Rattle.chyp_graph.specs.Composition.{then_graph, joined, inner_wires}
use Rattle.chyp_graph.proofs.Numbering.{edges-within, inputs-within, outputs-within, table-length, then-lists, then-few, numbers-joined, middle-length, input-apart}
use Rattle.chyp_graph.proofs.ThenValid.{then_valid}
use Rattle.chyp_graph.proofs.graph.Graph.then.Goals as goal

pub at_inputs-requires-clause-same : goal.at_inputs-requires-clause-same
at_inputs-requires-clause-same c =
    let g : PlainGraph = record { wires = c.self.inside.wires.items; edges = c.self.inside.edges.items; inputs = c.self.inside.inputs.items; outputs = c.self.inside.outputs.items } in
    let h : PlainGraph = record { wires = c.next.inside.wires.items; edges = c.next.inside.edges.items; inputs = c.next.inside.inputs.items; outputs = c.next.inside.outputs.items } in
    let v : IsValid h = c.next.invariant.valid in
    let m : length g.outputs ≡ length h.inputs = middle-length g h c.self.invariant.valid v (ap output_sorts c.self.view_is ∙ c.requires.middle ∙ sym (ap input_sorts c.next.view_is)) in
    ap length c.deref.ensures.value ∙ sym m ∙ sym (ap length c.deref-2.ensures.value)

pub at_inputs-requires-clause-within : goal.at_inputs-requires-clause-within
at_inputs-requires-clause-within c =
    let g : PlainGraph = record { wires = c.self.inside.wires.items; edges = c.self.inside.edges.items; inputs = c.self.inside.inputs.items; outputs = c.self.inside.outputs.items } in
    let h : PlainGraph = record { wires = c.next.inside.wires.items; edges = c.next.inside.edges.items; inputs = c.next.inside.inputs.items; outputs = c.next.inside.outputs.items } in
    let v : IsValid h = c.next.invariant.valid in
    let size : length h.wires ≡ c.len.result = sym (c.len.ensures ∙ c.next.inside.wires.ok.0) in
    subst (All (λ w. w < c.len.result)) (sym c.deref.ensures.value) (inputs-within h v c.len.result size)

pub at_inputs-requires-clause-apart : goal.at_inputs-requires-clause-apart
at_inputs-requires-clause-apart c =
    let g : PlainGraph = record { wires = c.self.inside.wires.items; edges = c.self.inside.edges.items; inputs = c.self.inside.inputs.items; outputs = c.self.inside.outputs.items } in
    let h : PlainGraph = record { wires = c.next.inside.wires.items; edges = c.next.inside.edges.items; inputs = c.next.inside.inputs.items; outputs = c.next.inside.outputs.items } in
    let v : IsValid h = c.next.invariant.valid in
    subst (λ l. (i j : ℕ) → i < length l → j < length l → slice_index l i ≡ slice_index l j → i ≡ j) (sym c.deref.ensures.value) (input-apart h v)

pub push_edges-requires : goal.push_edges-requires
push_edges-requires c =
    let g : PlainGraph = record { wires = c.self.inside.wires.items; edges = c.self.inside.edges.items; inputs = c.self.inside.inputs.items; outputs = c.self.inside.outputs.items } in
    let h : PlainGraph = record { wires = c.next.inside.wires.items; edges = c.next.inside.edges.items; inputs = c.next.inside.inputs.items; outputs = c.next.inside.outputs.items } in
    let v : IsValid h = c.next.invariant.valid in
    let m : length g.outputs ≡ length h.inputs = middle-length g h c.self.invariant.valid v (ap output_sorts c.self.view_is ∙ c.requires.middle ∙ sym (ap input_sorts c.next.view_is)) in
    let table : (j : ℕ) → j < length h.inputs → slice_index c.in_ok-at_inputs.at_inputs.items (slice_index h.inputs j) ≡ slice_index g.outputs j =
    subst (λ o. (j : ℕ) → j < length h.inputs → slice_index c.in_ok-at_inputs.at_inputs.items (slice_index h.inputs j) ≡ slice_index o j) c.deref-2.ensures.value
    (subst (λ l. (j : ℕ) → j < length l → slice_index c.in_ok-at_inputs.at_inputs.items
    (slice_index l j) ≡ slice_index c.deref-2.result.now j) c.deref.ensures.value c.in_ok-at_inputs.ensures.numbers) in
    let behind : c.in_ok-numbers.numbers.items ≡ map (number_behind (length g.wires) c.in_ok-at_inputs.at_inputs.items h.inputs) (count_from 0 (length h.wires)) =
    c.in_ok-numbers.ensures.numbers
    ∙ ap₂ (λ x t. map (number_behind (length x) t c.args.next.now.inputs) (count_from 0 (length c.args.next.now.wires))) c.in_ok-wires.ensures c.deref-3.ensures.value
    ∙ ap (λ k. map (number_behind (length g.wires) c.in_ok-at_inputs.at_inputs.items k.inputs) (count_from 0 (length k.wires))) (sym c.next.view_is) in
    let n : c.in_ok-numbers.numbers.items ≡ map (joined g h) (count_from 0 (length h.wires)) =
    numbers-joined g h c.in_ok-at_inputs.at_inputs.items c.in_ok-numbers.numbers.items (sym m) table behind in
    let size : length h.wires ≡ length c.deref-5.result.now = sym (ap length c.deref-5.ensures.value ∙ table-length (joined g h) (length h.wires) c.in_ok-numbers.numbers.items n) in
    subst (λ l. All (λ e. All (λ w. w < length c.deref-5.result.now) e.sources × All (λ w. w < length c.deref-5.result.now) e.targets) l)
    (sym c.deref-4.ensures.value) (edges-within h v (length c.deref-5.result.now) size)

pub push_wires-requires : goal.push_wires-requires
push_wires-requires c =
    let g : PlainGraph = record { wires = c.self.inside.wires.items; edges = c.self.inside.edges.items; inputs = c.self.inside.inputs.items; outputs = c.self.inside.outputs.items } in
    let h : PlainGraph = record { wires = c.next.inside.wires.items; edges = c.next.inside.edges.items; inputs = c.next.inside.inputs.items; outputs = c.next.inside.outputs.items } in
    let v : IsValid h = c.next.invariant.valid in
    let m : length g.outputs ≡ length h.inputs = middle-length g h c.self.invariant.valid v (ap output_sorts c.self.view_is ∙ c.requires.middle ∙ sym (ap input_sorts c.next.view_is)) in
    let table : (j : ℕ) → j < length h.inputs → slice_index c.in_ok-at_inputs.at_inputs.items (slice_index h.inputs j) ≡ slice_index g.outputs j =
    subst (λ o. (j : ℕ) → j < length h.inputs → slice_index c.in_ok-at_inputs.at_inputs.items (slice_index h.inputs j) ≡ slice_index o j) c.deref-2.ensures.value
    (subst (λ l. (j : ℕ) → j < length l → slice_index c.in_ok-at_inputs.at_inputs.items
    (slice_index l j) ≡ slice_index c.deref-2.result.now j) c.deref.ensures.value c.in_ok-at_inputs.ensures.numbers) in
    let behind : c.in_ok-numbers.numbers.items ≡ map (number_behind (length g.wires) c.in_ok-at_inputs.at_inputs.items h.inputs) (count_from 0 (length h.wires)) =
    c.in_ok-numbers.ensures.numbers
    ∙ ap₂ (λ x t. map (number_behind (length x) t c.args.next.now.inputs) (count_from 0 (length c.args.next.now.wires))) c.in_ok-wires.ensures c.deref-3.ensures.value
    ∙ ap (λ k. map (number_behind (length g.wires) c.in_ok-at_inputs.at_inputs.items k.inputs) (count_from 0 (length k.wires))) (sym c.next.view_is) in
    let n : c.in_ok-numbers.numbers.items ≡ map (joined g h) (count_from 0 (length h.wires)) =
    numbers-joined g h c.in_ok-at_inputs.at_inputs.items c.in_ok-numbers.numbers.items (sym m) table behind in
    let size : length h.wires ≡ length c.deref-8.result.now = sym (ap length c.deref-8.ensures.value ∙ table-length (joined g h) (length h.wires) c.in_ok-numbers.numbers.items n) in
    subst (λ l. All (λ w. w < length c.deref-8.result.now) l) (sym c.deref-7.ensures.value) (outputs-within h v (length c.deref-8.result.now) size)

pub of_parts-requires-clause-valid : goal.of_parts-requires-clause-valid
of_parts-requires-clause-valid c =
    let g : PlainGraph = record { wires = c.self.inside.wires.items; edges = c.self.inside.edges.items; inputs = c.self.inside.inputs.items; outputs = c.self.inside.outputs.items } in
    let h : PlainGraph = record { wires = c.next.inside.wires.items; edges = c.next.inside.edges.items; inputs = c.next.inside.inputs.items; outputs = c.next.inside.outputs.items } in
    let v : IsValid h = c.next.invariant.valid in
    let m : length g.outputs ≡ length h.inputs = middle-length g h c.self.invariant.valid v (ap output_sorts c.self.view_is ∙ c.requires.middle ∙ sym (ap input_sorts c.next.view_is)) in
    let table : (j : ℕ) → j < length h.inputs → slice_index c.in_ok-at_inputs.at_inputs.items (slice_index h.inputs j) ≡ slice_index g.outputs j =
    subst (λ o. (j : ℕ) → j < length h.inputs → slice_index c.in_ok-at_inputs.at_inputs.items (slice_index h.inputs j) ≡ slice_index o j) c.deref-2.ensures.value
    (subst (λ l. (j : ℕ) → j < length l → slice_index c.in_ok-at_inputs.at_inputs.items
    (slice_index l j) ≡ slice_index c.deref-2.result.now j) c.deref.ensures.value c.in_ok-at_inputs.ensures.numbers) in
    let behind : c.in_ok-numbers.numbers.items ≡ map (number_behind (length g.wires) c.in_ok-at_inputs.at_inputs.items h.inputs) (count_from 0 (length h.wires)) =
    c.in_ok-numbers.ensures.numbers
    ∙ ap₂ (λ x t. map (number_behind (length x) t c.args.next.now.inputs) (count_from 0 (length c.args.next.now.wires))) c.in_ok-wires.ensures c.deref-3.ensures.value
    ∙ ap (λ k. map (number_behind (length g.wires) c.in_ok-at_inputs.at_inputs.items k.inputs) (count_from 0 (length k.wires))) (sym c.next.view_is) in
    let n : c.in_ok-numbers.numbers.items ≡ map (joined g h) (count_from 0 (length h.wires)) =
    numbers-joined g h c.in_ok-at_inputs.at_inputs.items c.in_ok-numbers.numbers.items (sym m) table behind in
    let lists : ◌≡◌ {A = PlainGraph} (record { wires = c.from_vec.result; edges = c.from_vec-2.result; inputs = c.from_vec-3.result; outputs = c.from_vec-4.result }) (then_graph g h) =
    then-lists g h v c.in_ok-numbers.numbers.items n c.from_vec.result c.from_vec-2.result c.from_vec-3.result c.from_vec-4.result
    (c.from_vec.ensures ∙ c.in_ok-numbers.ensures.wires ∙ ap₂ (λ x k. x ++ permuted k.wires (inner_wires k)) c.in_ok-wires.ensures (sym c.next.view_is))
    (c.from_vec-2.ensures ∙ c.in_ok-push_edges.ensures ∙ ap₂ (λ x y. x ++ y) c.in_ok-edges.ensures (ap₂ (λ k es. map (renamed (slice_index k)) es) c.deref-5.ensures.value c.deref-4.ensures.value))
    (c.from_vec-3.ensures ∙ c.in_ok-inputs.ensures.items ∙ c.deref-6.ensures.value)
    (c.from_vec-4.ensures ∙ c.in_ok-push_wires.ensures ∙ ap₂ (λ x y. x ++ y) c.new-outputs.ensures.items (ap₂ (λ k ws. map (slice_index k) ws) c.deref-8.ensures.value c.deref-7.ensures.value)) in
    subst IsValid (sym lists) (then_valid g h c.self.invariant.valid v m)

pub of_parts-requires-clause-few_wires : goal.of_parts-requires-clause-few_wires
of_parts-requires-clause-few_wires c =
    let g : PlainGraph = record { wires = c.self.inside.wires.items; edges = c.self.inside.edges.items; inputs = c.self.inside.inputs.items; outputs = c.self.inside.outputs.items } in
    let h : PlainGraph = record { wires = c.next.inside.wires.items; edges = c.next.inside.edges.items; inputs = c.next.inside.inputs.items; outputs = c.next.inside.outputs.items } in
    let v : IsValid h = c.next.invariant.valid in
    let m : length g.outputs ≡ length h.inputs = middle-length g h c.self.invariant.valid v (ap output_sorts c.self.view_is ∙ c.requires.middle ∙ sym (ap input_sorts c.next.view_is)) in
    let table : (j : ℕ) → j < length h.inputs → slice_index c.in_ok-at_inputs.at_inputs.items (slice_index h.inputs j) ≡ slice_index g.outputs j =
    subst (λ o. (j : ℕ) → j < length h.inputs → slice_index c.in_ok-at_inputs.at_inputs.items (slice_index h.inputs j) ≡ slice_index o j) c.deref-2.ensures.value
    (subst (λ l. (j : ℕ) → j < length l → slice_index c.in_ok-at_inputs.at_inputs.items
    (slice_index l j) ≡ slice_index c.deref-2.result.now j) c.deref.ensures.value c.in_ok-at_inputs.ensures.numbers) in
    let behind : c.in_ok-numbers.numbers.items ≡ map (number_behind (length g.wires) c.in_ok-at_inputs.at_inputs.items h.inputs) (count_from 0 (length h.wires)) =
    c.in_ok-numbers.ensures.numbers
    ∙ ap₂ (λ x t. map (number_behind (length x) t c.args.next.now.inputs) (count_from 0 (length c.args.next.now.wires))) c.in_ok-wires.ensures c.deref-3.ensures.value
    ∙ ap (λ k. map (number_behind (length g.wires) c.in_ok-at_inputs.at_inputs.items k.inputs) (count_from 0 (length k.wires))) (sym c.next.view_is) in
    let n : c.in_ok-numbers.numbers.items ≡ map (joined g h) (count_from 0 (length h.wires)) =
    numbers-joined g h c.in_ok-at_inputs.at_inputs.items c.in_ok-numbers.numbers.items (sym m) table behind in
    let lists : ◌≡◌ {A = PlainGraph} (record { wires = c.from_vec.result; edges = c.from_vec-2.result; inputs = c.from_vec-3.result; outputs = c.from_vec-4.result }) (then_graph g h) =
    then-lists g h v c.in_ok-numbers.numbers.items n c.from_vec.result c.from_vec-2.result c.from_vec-3.result c.from_vec-4.result
    (c.from_vec.ensures ∙ c.in_ok-numbers.ensures.wires ∙ ap₂ (λ x k. x ++ permuted k.wires (inner_wires k)) c.in_ok-wires.ensures (sym c.next.view_is))
    (c.from_vec-2.ensures ∙ c.in_ok-push_edges.ensures ∙ ap₂ (λ x y. x ++ y) c.in_ok-edges.ensures (ap₂ (λ k es. map (renamed (slice_index k)) es) c.deref-5.ensures.value c.deref-4.ensures.value))
    (c.from_vec-3.ensures ∙ c.in_ok-inputs.ensures.items ∙ c.deref-6.ensures.value)
    (c.from_vec-4.ensures ∙ c.in_ok-push_wires.ensures ∙ ap₂ (λ x y. x ++ y) c.new-outputs.ensures.items (ap₂ (λ k ws. map (slice_index k) ws) c.deref-8.ensures.value c.deref-7.ensures.value)) in
    subst (λ k. length k.wires < 2147483648) (sym lists)
    (then-few g h (subst (λ k. length k.wires + length h.wires < 2147483648) (sym c.self.view_is)
    (subst (λ k. length c.args.self.now.wires + length k.wires < 2147483648) (sym c.next.view_is) c.requires.few_wires)))

pub returns : goal.returns
returns c =
    let g : PlainGraph = record { wires = c.self.inside.wires.items; edges = c.self.inside.edges.items; inputs = c.self.inside.inputs.items; outputs = c.self.inside.outputs.items } in
    let h : PlainGraph = record { wires = c.next.inside.wires.items; edges = c.next.inside.edges.items; inputs = c.next.inside.inputs.items; outputs = c.next.inside.outputs.items } in
    let v : IsValid h = c.next.invariant.valid in
    let m : length g.outputs ≡ length h.inputs = middle-length g h c.self.invariant.valid v (ap output_sorts c.self.view_is ∙ c.requires.middle ∙ sym (ap input_sorts c.next.view_is)) in
    let table : (j : ℕ) → j < length h.inputs → slice_index c.in_ok-at_inputs.at_inputs.items (slice_index h.inputs j) ≡ slice_index g.outputs j =
    subst (λ o. (j : ℕ) → j < length h.inputs → slice_index c.in_ok-at_inputs.at_inputs.items (slice_index h.inputs j) ≡ slice_index o j) c.deref-2.ensures.value
    (subst (λ l. (j : ℕ) → j < length l → slice_index c.in_ok-at_inputs.at_inputs.items
    (slice_index l j) ≡ slice_index c.deref-2.result.now j) c.deref.ensures.value c.in_ok-at_inputs.ensures.numbers) in
    let behind : c.in_ok-numbers.numbers.items ≡ map (number_behind (length g.wires) c.in_ok-at_inputs.at_inputs.items h.inputs) (count_from 0 (length h.wires)) =
    c.in_ok-numbers.ensures.numbers
    ∙ ap₂ (λ x t. map (number_behind (length x) t c.args.next.now.inputs) (count_from 0 (length c.args.next.now.wires))) c.in_ok-wires.ensures c.deref-3.ensures.value
    ∙ ap (λ k. map (number_behind (length g.wires) c.in_ok-at_inputs.at_inputs.items k.inputs) (count_from 0 (length k.wires))) (sym c.next.view_is) in
    let n : c.in_ok-numbers.numbers.items ≡ map (joined g h) (count_from 0 (length h.wires)) =
    numbers-joined g h c.in_ok-at_inputs.at_inputs.items c.in_ok-numbers.numbers.items (sym m) table behind in
    let lists : ◌≡◌ {A = PlainGraph} (record { wires = c.from_vec.result; edges = c.from_vec-2.result; inputs = c.from_vec-3.result; outputs = c.from_vec-4.result }) (then_graph g h) =
    then-lists g h v c.in_ok-numbers.numbers.items n c.from_vec.result c.from_vec-2.result c.from_vec-3.result c.from_vec-4.result
    (c.from_vec.ensures ∙ c.in_ok-numbers.ensures.wires ∙ ap₂ (λ x k. x ++ permuted k.wires (inner_wires k)) c.in_ok-wires.ensures (sym c.next.view_is))
    (c.from_vec-2.ensures ∙ c.in_ok-push_edges.ensures ∙ ap₂ (λ x y. x ++ y) c.in_ok-edges.ensures (ap₂ (λ k es. map (renamed (slice_index k)) es) c.deref-5.ensures.value c.deref-4.ensures.value))
    (c.from_vec-3.ensures ∙ c.in_ok-inputs.ensures.items ∙ c.deref-6.ensures.value)
    (c.from_vec-4.ensures ∙ c.in_ok-push_wires.ensures ∙ ap₂ (λ x y. x ++ y) c.new-outputs.ensures.items (ap₂ (λ k ws. map (slice_index k) ws) c.deref-8.ensures.value c.deref-7.ensures.value)) in
    IfOk-weaker c.of_parts.result _ _ (λ _ done. done ∙ lists ∙ ap₂ (λ x y. then_graph x y) c.self.view_is c.next.view_is) c.of_parts.ensures
