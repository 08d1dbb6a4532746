use Rattle.std.proofs.Common.{ℕ, List, take, drop, ◌-◌, ◌≡◌, ◌∙◌, [], ◌∷◌, ◌++◌, sym, ap, ap₂, subst, arith, ◌<◌, ◌≤◌, ◌+◌, length, length-append}
use Rattle.std.proofs.lemmas.Result.{IfOk-weaker}
use Rattle.chyp_term.specs.Morphism.{then, beside, generator, permutation, IsTyped, dom}
use Rattle.chyp_base.specs.declared.sort.Sort.{Sort}
use Rattle.chyp_term.specs.Perm.{IsPermutation, count_from, permuted}
use Rattle.chyp_term.specs.Measure.{size_of}
use Rattle.chyp_term.specs.Term.{morphism_of}
use Rattle.chyp_graph.specs.Draft.{drawn, followed}
use Rattle.chyp_graph.specs.GraphOf.{graph_of}
use Rattle.chyp_graph.specs.PlainGraph.{PlainGraph}
use Rattle.chyp_graph.proofs.Leaves.{length-part, follow_generator, follow_permutation}
use Rattle.chyp_graph.proofs.Steps.{part, follow_seq, follow_seq-room, follow_par, follow_par-room}
use Rattle.chyp_graph.proofs.draft.Draft.+follow.Goals as goal

pub follow-requires-in-Seq : goal.follow-requires-in-Seq
follow-requires-in-Seq t c =
    let s = morphism_of c.in-Seq.first.value in
    let u = morphism_of c.in-Seq.second.value in
    let m : morphism_of c.args.term.now ≡ then s u = ap morphism_of c.in-Seq.is in
    let ty : IsTyped (then s u) = subst IsTyped m c.requires.typed in
    let old : PlainGraph = drawn c.args.self.now in
    let room : length c.args.self.now.wires.items + size_of (then s u) < 2147483648 = subst (λ x. length c.args.self.now.wires.items + size_of x < 2147483648) m c.requires.room in
    let first : drawn c.follow.new.self ≡ followed (record old { outputs = [] }) (part c.args.live.now c.args.at s) (graph_of s) =
    c.in_ok-end-in-Seq.ensures.drawn ∙ ap₂ (λ o x. followed (record old { outputs = o }) (part c.args.live.now c.args.at x) (graph_of x))
    (ap (λ v. v.items) c.replace-before.ensures.after ∙ c.new.ensures.items) (ap morphism_of c.deref-in-Seq.ensures) in
    let r = follow_seq-room old (drawn c.follow.new.self) c.args.live.now c.args.at s u ty first room in
    let d : morphism_of c.deref-in-Seq-2.result.now ≡ u = ap morphism_of c.deref-in-Seq-2.ensures in
    let live : c.deref-in-Seq-3.result.now ≡ c.follow.new.self.outputs.items = c.deref-in-Seq-3.ensures.value ∙ ap (λ v. v.items) c.replace-middle.ensures.value in
    let size : size_of (morphism_of c.args.term.now) ≡ size_of (then s u) = ap size_of m in
    let second : size_of (morphism_of c.deref-in-Seq-2.result.now) ≡ size_of u = ap size_of d in
    let dec = c.decreases in (
      omega arith,
      (
        subst IsTyped (sym d) ty.1,
        (
          subst (λ x. length c.follow.new.self.wires.items + size_of x < 2147483648) (sym d) r.0,
          subst (λ l. 0 + length (dom (morphism_of c.deref-in-Seq-2.result.now)) ≤ length l) (sym live) (subst (λ x. 0 + length (dom x) ≤ length c.follow.new.self.outputs.items) (sym d) r.1),
        ),
      ),
    )

pub follow-requires-in-Par-2 : goal.follow-requires-in-Par-2
follow-requires-in-Par-2 t c =
    let s = morphism_of c.in-Par.first.value in
    let u = morphism_of c.in-Par.second.value in
    let m : morphism_of c.args.term.now ≡ beside s u = ap morphism_of c.in-Par.is in
    let ty : IsTyped (beside s u) = subst IsTyped m c.requires.typed in
    let old : PlainGraph = drawn c.args.self.now in
    let room : length c.args.self.now.wires.items + size_of (beside s u) < 2147483648 = subst (λ x. length c.args.self.now.wires.items + size_of x < 2147483648) m c.requires.room in
    let live : c.args.at + length (dom s ++ dom u) ≤ length c.args.live.now = subst (λ x. c.args.at + length (dom x) ≤ length c.args.live.now) m c.requires.live in
    let both = length-append (dom s) (dom u) in
    let d1 : morphism_of c.deref-in-Par.result.now ≡ s = ap morphism_of c.deref-in-Par.ensures in
    let d2 : morphism_of c.deref-in-Par-2.result.now ≡ u = ap morphism_of c.deref-in-Par-2.ensures in
    let end : c.in_ok-end-in-Par.end ≡ c.args.at + length (dom s) = c.in_ok-end-in-Par.ensures.end ∙ ap (λ x. c.args.at + length (dom x)) d1 in
    let first : drawn c.follow-in-Par.new.self ≡ followed old (part c.args.live.now c.args.at s) (graph_of s) =
    c.in_ok-end-in-Par.ensures.drawn ∙ ap (λ x. followed old (part c.args.live.now c.args.at x) (graph_of x)) d1 in
    let r = follow_par-room old (drawn c.follow-in-Par.new.self) c.args.live.now c.args.at s u ty first room in
    let size : size_of (morphism_of c.args.term.now) ≡ size_of (beside s u) = ap size_of m in
    let second : size_of (morphism_of c.deref-in-Par-2.result.now) ≡ size_of u = ap size_of d2 in
    let taken : length (dom (morphism_of c.deref-in-Par-2.result.now)) ≡ length (dom u) = ap (λ x. length (dom x)) d2 in
    let dec = c.decreases in
    (omega arith, (subst IsTyped (sym d2) ty.1, (subst (λ x. length c.follow-in-Par.new.self.wires.items + size_of x < 2147483648) (sym d2) r, omega arith)))

pub returns-in_ok-add_edge-in-Gen-clause-drawn : goal.returns-in_ok-add_edge-in-Gen-clause-drawn
returns-in_ok-add_edge-in-Gen-clause-drawn t c =
    let n = c.in-Gen.name in
    let a = c.in-Gen.dom in
    let b = c.in-Gen.cod in
    let m : morphism_of c.args.term.now ≡ generator n a b = ap morphism_of c.in-Gen.is in
    let old : PlainGraph = drawn c.args.self.now in
    let live : c.args.at + length a ≤ length c.args.live.now = subst (λ x. c.args.at + length (dom x) ≤ length c.args.live.now) m c.requires.live in
    let size : c.args.at + length c.as_slice.result.now - c.args.at ≡ length a = ap (λ l. c.args.at + length l - c.args.at) c.as_slice.ensures ∙ omega arith in
    let sources : c.in_ok-sources-in-Gen.sources ≡ take (length a) (drop c.args.at c.args.live.now) =
    c.in_ok-sources-in-Gen.ensures ∙ ap (λ k. take k (drop c.args.at c.args.live.now)) size in
    let plain : List ℕ → List Sort → PlainGraph = λ l ts. record {
      wires = c.args.self.now.wires.items ++ ts;
      edges = c.args.self.now.edges.items ++ record { name = n; sources = l; targets = count_from (length c.args.self.now.wires.items) (length ts) } ∷ [];
      inputs = c.args.self.now.inputs.items;
      outputs = c.args.self.now.outputs.items ++ count_from (length c.args.self.now.wires.items) (length ts);
    } in
    subst (λ x. drawn c.add_edge.new.self ≡ followed old (part c.args.live.now c.args.at x) (graph_of x)) (sym m)
    (c.in_ok-add_edge-in-Gen.ensures ∙ ap₂ plain sources c.as_slice-in-Gen.ensures
    ∙ follow_generator old (take (length a) (drop c.args.at c.args.live.now)) n a b (length-part c.args.live.now c.args.at (length a) live))

pub returns-in_ok-push_at-in-Perm-clause-drawn : goal.returns-in_ok-push_at-in-Perm-clause-drawn
returns-in_ok-push_at-in-Perm-clause-drawn t c =
    let a = c.in-Perm.sorts in
    let p = c.in-Perm.perm.value in
    let m : morphism_of c.args.term.now ≡ permutation a p = ap morphism_of c.in-Perm.is in
    let old : PlainGraph = drawn c.args.self.now in
    let ty : IsPermutation (length a) p = subst IsTyped m c.requires.typed in
    let live : c.args.at + length a ≤ length c.args.live.now = subst (λ x. c.args.at + length (dom x) ≤ length c.args.live.now) m c.requires.live in
    let size : c.args.at + length c.as_slice-in-Perm.result.now - c.args.at ≡ length a = ap (λ l. c.args.at + length l - c.args.at) c.as_slice-in-Perm.ensures ∙ omega arith in
    let outputs : c.push_at.new.list.items ≡ old.outputs ++ permuted (take (length a) (drop c.args.at c.args.live.now)) p =
    c.in_ok-push_at-in-Perm.ensures ∙ ap₂ (λ k q. old.outputs ++ permuted (take k (drop c.args.at c.args.live.now)) q) size (c.places.ensures.value ∙ c.deref.ensures) in
    subst (λ x. drawn (record c.args.self.now { outputs = c.push_at.new.list }) ≡ followed old (part c.args.live.now c.args.at x) (graph_of x)) (sym m)
    (ap (λ o. record { wires = old.wires; edges = old.edges; inputs = old.inputs; outputs = o }) outputs
    ∙ follow_permutation old (take (length a) (drop c.args.at c.args.live.now)) a p ty (length-part c.args.live.now c.args.at (length a) live))

pub returns-in_ok-follow-in-Seq-clause-drawn : goal.returns-in_ok-follow-in-Seq-clause-drawn
returns-in_ok-follow-in-Seq-clause-drawn t c =
    let s = morphism_of c.in-Seq.first.value in
    let u = morphism_of c.in-Seq.second.value in
    let m : morphism_of c.args.term.now ≡ then s u = ap morphism_of c.in-Seq.is in
    let ty : IsTyped (then s u) = subst IsTyped m c.requires.typed in
    let old : PlainGraph = drawn c.args.self.now in
    let mid : PlainGraph = drawn c.follow.new.self in
    let first : drawn c.follow.new.self ≡ followed (record old { outputs = [] }) (part c.args.live.now c.args.at s) (graph_of s) =
    c.in_ok-end-in-Seq.ensures.drawn ∙ ap₂ (λ o x. followed (record old { outputs = o }) (part c.args.live.now c.args.at x) (graph_of x))
    (ap (λ v. v.items) c.replace-before.ensures.after ∙ c.new.ensures.items) (ap morphism_of c.deref-in-Seq.ensures) in
    let d : morphism_of c.deref-in-Seq-2.result.now ≡ u = ap morphism_of c.deref-in-Seq-2.ensures in
    let live : c.deref-in-Seq-3.result.now ≡ c.follow.new.self.outputs.items = c.deref-in-Seq-3.ensures.value ∙ ap (λ v. v.items) c.replace-middle.ensures.value in
    let outs : c.replace-middle.new.dest.items ≡ c.args.self.now.outputs.items = ap (λ v. v.items) (c.replace-middle.ensures.after ∙ c.replace-before.ensures.value) in
    let second : drawn c.follow-in-Seq.new.self ≡ followed (record mid { outputs = old.outputs }) (part mid.outputs 0 u) (graph_of u) =
    c.in_ok-follow-in-Seq.ensures.drawn ∙ ap₂ (λ o l. followed (record mid { outputs = o }) (part l 0 (morphism_of c.deref-in-Seq-2.result.now))
    (graph_of (morphism_of c.deref-in-Seq-2.result.now))) outs live
    ∙ ap (λ x. followed (record mid { outputs = old.outputs }) (part mid.outputs 0 x) (graph_of x)) d in
    subst (λ x. drawn c.follow-in-Seq.new.self ≡ followed old (part c.args.live.now c.args.at x) (graph_of x)) (sym m)
    (follow_seq old mid (drawn c.follow-in-Seq.new.self) c.args.live.now c.args.at s u ty first second)

pub returns-in_ok-end-in-Par-clause-drawn : goal.returns-in_ok-end-in-Par-clause-drawn
returns-in_ok-end-in-Par-clause-drawn t c =
    let s = morphism_of c.in-Par.first.value in
    let u = morphism_of c.in-Par.second.value in
    let m : morphism_of c.args.term.now ≡ beside s u = ap morphism_of c.in-Par.is in
    let ty : IsTyped (beside s u) = subst IsTyped m c.requires.typed in
    let old : PlainGraph = drawn c.args.self.now in
    let live : c.args.at + length (dom s ++ dom u) ≤ length c.args.live.now = subst (λ x. c.args.at + length (dom x) ≤ length c.args.live.now) m c.requires.live in
    let d1 : morphism_of c.deref-in-Par.result.now ≡ s = ap morphism_of c.deref-in-Par.ensures in
    let d2 : morphism_of c.deref-in-Par-2.result.now ≡ u = ap morphism_of c.deref-in-Par-2.ensures in
    let end : c.in_ok-end-in-Par.end ≡ c.args.at + length (dom s) = c.in_ok-end-in-Par.ensures.end ∙ ap (λ x. c.args.at + length (dom x)) d1 in
    let first : drawn c.follow-in-Par.new.self ≡ followed old (part c.args.live.now c.args.at s) (graph_of s) =
    c.in_ok-end-in-Par.ensures.drawn ∙ ap (λ x. followed old (part c.args.live.now c.args.at x) (graph_of x)) d1 in
    let mid : PlainGraph = drawn c.follow-in-Par.new.self in
    IfOk-weaker c.follow-in-Par-2.result _ _ (λ _ done.
    subst (λ x. drawn c.follow-in-Par-2.new.self ≡ followed old (part c.args.live.now c.args.at x) (graph_of x)) (sym m)
    (follow_par old mid (drawn c.follow-in-Par-2.new.self) c.args.live.now c.args.at s u ty live first
    (done ∙ ap₂ (λ k x. followed mid (part c.args.live.now k x) (graph_of x)) end d2)))
    c.follow-in-Par-2.ensures.drawn
