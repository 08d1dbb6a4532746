use Rattle.std.proofs.Common.{ℕ, List, ◌≡◌, ◌∙◌, [], ◌∷◌, ◌++◌, sym, ap, ap₂, subst, arith, ◌<◌, ◌≤◌, ◌+◌, ◌-◌, drop, length, slice_index, take}
use Rattle.std.proofs.lemmas.Result.{IfOk-weaker}
use Rattle.chyp_term.specs.Morphism.{then, beside, generator, permutation, IsTyped, dom}
use Rattle.chyp_base.specs.declared.sort.Sort.{Sort}
use Rattle.chyp_term.specs.Perm.{IsPermutation, count_from, permuted}
use Rattle.chyp_term.specs.Measure.{size_of}
use Rattle.chyp_term.specs.Term.{morphism_of}
use Rattle.chyp_term.proofs.Permuted.{length-count_from}
use Rattle.chyp_graph.specs.Composition.{beside_graph}
use Rattle.chyp_graph.specs.Draft.{drawn, followed}
use Rattle.chyp_graph.specs.GraphOf.{graph_of}
use Rattle.chyp_graph.specs.PlainGraph.{PlainGraph}
use Rattle.chyp_graph.proofs.Leaves.{place_generator, place_permutation, put-behind}
use Rattle.chyp_graph.proofs.Steps.{part, place_seq, place_seq-room, place_par, place_par-room}
use Rattle.chyp_graph.proofs.draft.Draft.+place.Goals as goal

-- the wires that a permutation takes are its inputs, which were put behind those of the draft
taken : (t : ℕ) (c : goal.After-places t) → take (length c.deref-in-Perm.result.now - c.len-first-in-Perm.result) (drop c.len-first-in-Perm.result c.deref-in-Perm.result.now)
    ≡ count_from (length c.args.self.now.wires.items) (length c.in-Perm.sorts)
taken t c =
    let old : PlainGraph = drawn c.args.self.now in
    put-behind old.inputs (count_from (length old.wires) (length c.in-Perm.sorts)) c.deref-in-Perm.result.now c.len-first-in-Perm.result
    (c.len-first-in-Perm.ensures ∙ c.args.self.now.inputs.ok.0)
    (c.deref-in-Perm.ensures.value ∙ c.in_ok-add_wires-in-Perm.ensures.numbers ∙ ap (λ l. old.inputs ++ count_from (length old.wires) (length l)) c.as_slice-in-Perm.ensures)

pub push_at-requires : goal.push_at-requires
push_at-requires t c j h =
    let a = c.in-Perm.sorts in
    let p = c.in-Perm.perm.value in
    let m : morphism_of c.args.term.now ≡ permutation a p = ap morphism_of c.in-Perm.is in
    let ty : IsPermutation (length a) p = subst IsTyped m c.requires.typed in
    let size = ap length (taken t c) ∙ length-count_from (length c.args.self.now.wires.items) (length a) in
    let places = c.places.ensures.value ∙ c.deref-in-Perm-2.ensures in
    let within : slice_index p j < length a = ty.within j (subst (λ n. j < n) ty.size (subst (λ l. j < length l) places h)) in
    subst (λ n. slice_index c.places.result.now j < n) (sym size) (subst (λ l. slice_index l j < length a) (sym places) within)

pub follow-requires-clause-room : goal.follow-requires-clause-room
follow-requires-clause-room t c =
    let s = morphism_of c.in-Seq.first.value in
    let u = morphism_of c.in-Seq.second.value in
    let m : morphism_of c.args.term.now ≡ then s u = ap morphism_of c.in-Seq.is in
    let ty : IsTyped (then s u) = subst IsTyped m c.requires.typed in
    let old : PlainGraph = drawn c.args.self.now in
    let room : length c.args.self.now.wires.items + size_of (then s u) < 2147483648 = subst (λ x. length c.args.self.now.wires.items + size_of x < 2147483648) m c.requires.room in
    let first : drawn c.place.new.self ≡ beside_graph (record old { outputs = [] }) (graph_of s) =
    c.in_ok-place-in-Seq.ensures ∙ ap₂ (λ o x. beside_graph (record old { outputs = o }) (graph_of x))
    (ap (λ v. v.items) c.replace-before.ensures.after ∙ c.new.ensures.items) (ap morphism_of c.deref-in-Seq.ensures) in
    subst (λ x. length c.place.new.self.wires.items + size_of x < 2147483648) (sym (ap morphism_of c.deref-in-Seq-2.ensures))
    (place_seq-room old (drawn c.place.new.self) s u ty first room).0

pub follow-requires-clause-live : goal.follow-requires-clause-live
follow-requires-clause-live t c =
    let s = morphism_of c.in-Seq.first.value in
    let u = morphism_of c.in-Seq.second.value in
    let m : morphism_of c.args.term.now ≡ then s u = ap morphism_of c.in-Seq.is in
    let ty : IsTyped (then s u) = subst IsTyped m c.requires.typed in
    let old : PlainGraph = drawn c.args.self.now in
    let room : length c.args.self.now.wires.items + size_of (then s u) < 2147483648 = subst (λ x. length c.args.self.now.wires.items + size_of x < 2147483648) m c.requires.room in
    let first : drawn c.place.new.self ≡ beside_graph (record old { outputs = [] }) (graph_of s) =
    c.in_ok-place-in-Seq.ensures ∙ ap₂ (λ o x. beside_graph (record old { outputs = o }) (graph_of x))
    (ap (λ v. v.items) c.replace-before.ensures.after ∙ c.new.ensures.items) (ap morphism_of c.deref-in-Seq.ensures) in
    let live : c.deref-in-Seq-3.result.now ≡ c.place.new.self.outputs.items = c.deref-in-Seq-3.ensures.value ∙ ap (λ v. v.items) c.replace-middle.ensures.value in
    subst (λ l. 0 + length (dom (morphism_of c.deref-in-Seq-2.result.now)) ≤ length l) (sym live)
    (subst (λ x. 0 + length (dom x) ≤ length c.place.new.self.outputs.items) (sym (ap morphism_of c.deref-in-Seq-2.ensures))
    (place_seq-room old (drawn c.place.new.self) s u ty first room).1)

pub place-requires-in-Par-2 : goal.place-requires-in-Par-2
place-requires-in-Par-2 t c =
    let s = morphism_of c.in-Par.first.value in
    let u = morphism_of c.in-Par.second.value in
    let m : morphism_of c.args.term.now ≡ beside s u = ap morphism_of c.in-Par.is in
    let ty : IsTyped (beside s u) = subst IsTyped m c.requires.typed in
    let old : PlainGraph = drawn c.args.self.now in
    let room : length c.args.self.now.wires.items + size_of (beside s u) < 2147483648 = subst (λ x. length c.args.self.now.wires.items + size_of x < 2147483648) m c.requires.room in
    let d2 : morphism_of c.deref-in-Par-2.result.now ≡ u = ap morphism_of c.deref-in-Par-2.ensures in
    let first : drawn c.place-in-Par.new.self ≡ beside_graph old (graph_of s) = c.in_ok-place-in-Par.ensures ∙ ap (λ x. beside_graph old (graph_of (morphism_of x))) c.deref-in-Par.ensures in
    let r = place_par-room old (drawn c.place-in-Par.new.self) s u ty first room in
    let size : size_of (morphism_of c.args.term.now) ≡ size_of (beside s u) = ap size_of m in
    let second : size_of (morphism_of c.deref-in-Par-2.result.now) ≡ size_of u = ap size_of d2 in
    let dec = c.decreases in
    (omega arith, (subst IsTyped (sym d2) ty.1, subst (λ x. length c.place-in-Par.new.self.wires.items + size_of x < 2147483648) (sym d2) r))

pub returns-in_ok-sources-in-Gen : goal.returns-in_ok-sources-in-Gen
returns-in_ok-sources-in-Gen t c =
    let n = c.in-Gen.name in
    let a = c.in-Gen.dom in
    let b = c.in-Gen.cod in
    let old : PlainGraph = drawn c.args.self.now in
    let m : morphism_of c.args.term.now ≡ generator n a b = ap morphism_of c.in-Gen.is in
    let wires : c.add_wires.new.wires.items ≡ old.wires ++ a = c.in_ok-add_wires-in-Gen.ensures.wires ∙ ap (λ l. old.wires ++ l) c.as_slice.ensures in
    let inputs : c.add_wires.new.numbers.items ≡ old.inputs ++ count_from (length old.wires) (length a) =
    c.in_ok-add_wires-in-Gen.ensures.numbers ∙ ap (λ l. old.inputs ++ count_from (length old.wires) (length l)) c.as_slice.ensures in
    let sources : c.in_ok-sources-in-Gen.sources ≡ count_from (length old.wires) (length a) =
    c.in_ok-sources-in-Gen.ensures ∙ put-behind old.inputs (count_from (length old.wires) (length a)) c.deref.result.now c.len-first.result
    (c.len-first.ensures ∙ c.args.self.now.inputs.ok.0) (c.deref.ensures.value ∙ inputs) in
    let plain : List Sort → List ℕ → List ℕ → List Sort → PlainGraph = λ w l i ts. record {
      wires = w ++ ts;
      edges = old.edges ++ record { name = n; sources = l; targets = count_from (length w) (length ts) } ∷ [];
      inputs = i;
      outputs = old.outputs ++ count_from (length w) (length ts);
    } in
    IfOk-weaker c.add_edge.result _ _ (λ _ done.
    subst (λ x. drawn c.add_edge.new.self ≡ beside_graph old (graph_of x)) (sym m)
    (done ∙ ap₂ (λ w l. plain w l c.add_wires.new.numbers.items c.as_slice-in-Gen.result.now) wires sources
    ∙ ap₂ (plain (old.wires ++ a) (count_from (length old.wires) (length a))) inputs c.as_slice-in-Gen.ensures
    ∙ place_generator old n a b))
    c.add_edge.ensures

pub returns-in_ok-add_wires-in-Perm : goal.returns-in_ok-add_wires-in-Perm
returns-in_ok-add_wires-in-Perm t c =
    let a = c.in-Perm.sorts in
    let p = c.in-Perm.perm.value in
    let m : morphism_of c.args.term.now ≡ permutation a p = ap morphism_of c.in-Perm.is in
    let ty : IsPermutation (length a) p = subst IsTyped m c.requires.typed in
    let old : PlainGraph = drawn c.args.self.now in
    let wires : c.add_wires-in-Perm.new.wires.items ≡ old.wires ++ a = c.in_ok-add_wires-in-Perm.ensures.wires ∙ ap (λ l. old.wires ++ l) c.as_slice-in-Perm.ensures in
    let inputs : c.add_wires-in-Perm.new.numbers.items ≡ old.inputs ++ count_from (length old.wires) (length a) =
    c.in_ok-add_wires-in-Perm.ensures.numbers ∙ ap (λ l. old.inputs ++ count_from (length old.wires) (length l)) c.as_slice-in-Perm.ensures in
    IfOk-weaker c.push_at.result _ _ (λ _ done.
    subst (λ x. drawn (record c.args.self.now { wires = c.add_wires-in-Perm.new.wires; inputs = c.add_wires-in-Perm.new.numbers; outputs = c.push_at.new.list }) ≡ beside_graph old (graph_of x))
    (sym m)
    (ap₂ (λ w i. record { wires = w; edges = old.edges; inputs = i; outputs = c.push_at.new.list.items }) wires inputs
    ∙ ap (λ o. record { wires = old.wires ++ a; edges = old.edges; inputs = old.inputs ++ count_from (length old.wires) (length a); outputs = o })
    (done ∙ ap₂ (λ l q. old.outputs ++ permuted l q) (taken t c.before) (c.places.ensures.value ∙ c.deref-in-Perm-2.ensures))
    ∙ place_permutation old a p ty))
    c.push_at.ensures

pub returns-in_ok-follow-in-Seq : goal.returns-in_ok-follow-in-Seq
returns-in_ok-follow-in-Seq t c =
    let s = morphism_of c.in-Seq.first.value in
    let u = morphism_of c.in-Seq.second.value in
    let m : morphism_of c.args.term.now ≡ then s u = ap morphism_of c.in-Seq.is in
    let ty : IsTyped (then s u) = subst IsTyped m c.requires.typed in
    let old : PlainGraph = drawn c.args.self.now in
    let mid : PlainGraph = drawn c.place.new.self in
    let first : drawn c.place.new.self ≡ beside_graph (record old { outputs = [] }) (graph_of s) =
    c.in_ok-place-in-Seq.ensures ∙ ap₂ (λ o x. beside_graph (record old { outputs = o }) (graph_of x))
    (ap (λ v. v.items) c.replace-before.ensures.after ∙ c.new.ensures.items) (ap morphism_of c.deref-in-Seq.ensures) in
    let live : c.deref-in-Seq-3.result.now ≡ c.place.new.self.outputs.items = c.deref-in-Seq-3.ensures.value ∙ ap (λ v. v.items) c.replace-middle.ensures.value in
    let outs : c.replace-middle.new.dest.items ≡ c.args.self.now.outputs.items = ap (λ v. v.items) (c.replace-middle.ensures.after ∙ c.replace-before.ensures.value) in
    let second : drawn c.follow.new.self ≡ followed (record mid { outputs = old.outputs }) (part mid.outputs 0 u) (graph_of u) =
    c.in_ok-follow-in-Seq.ensures.drawn ∙ ap₂ (λ o l. followed (record mid { outputs = o }) (part l 0 (morphism_of c.deref-in-Seq-2.result.now))
    (graph_of (morphism_of c.deref-in-Seq-2.result.now))) outs live
    ∙ ap (λ x. followed (record mid { outputs = old.outputs }) (part mid.outputs 0 (morphism_of x)) (graph_of (morphism_of x))) c.deref-in-Seq-2.ensures in
    subst (λ x. drawn c.follow.new.self ≡ beside_graph old (graph_of x)) (sym m) (place_seq old mid (drawn c.follow.new.self) s u ty first second)

pub returns-in_ok-place-in-Par : goal.returns-in_ok-place-in-Par
returns-in_ok-place-in-Par t c =
    let s = morphism_of c.in-Par.first.value in
    let u = morphism_of c.in-Par.second.value in
    let m : morphism_of c.args.term.now ≡ beside s u = ap morphism_of c.in-Par.is in
    let old : PlainGraph = drawn c.args.self.now in
    let mid : PlainGraph = drawn c.place-in-Par.new.self in
    let first : drawn c.place-in-Par.new.self ≡ beside_graph old (graph_of s) = c.in_ok-place-in-Par.ensures ∙ ap (λ x. beside_graph old (graph_of (morphism_of x))) c.deref-in-Par.ensures in
    IfOk-weaker c.place-in-Par-2.result _ _ (λ _ done.
    subst (λ x. drawn c.place-in-Par-2.new.self ≡ beside_graph old (graph_of x)) (sym m)
    (place_par old mid (drawn c.place-in-Par-2.new.self) s u first (done ∙ ap (λ x. beside_graph mid (graph_of (morphism_of x))) c.deref-in-Par-2.ensures)))
    c.place-in-Par-2.ensures
