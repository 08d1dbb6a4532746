use Rattle.std.proofs.Common.{◌≡◌, ◌∙◌, sym, subst, ap, arith, length}
use Rattle.std.proofs.lemmas.Result.{IfOk-weaker}
use Rattle.chyp_term.specs.Term.{morphism_of}
use Rattle.chyp_graph.specs.Composition.{beside_graph}
use Rattle.chyp_graph.specs.GraphOf.{graph_of}
use Rattle.chyp_graph.specs.PlainGraph.{PlainGraph}
use Rattle.chyp_graph.specs.Validity.{IsValid}
use Rattle.chyp_graph.proofs.Drafting.{plain-same}
use Rattle.chyp_graph.proofs.Leaves.{place_empty, wires-size, edges-size}
use Rattle.chyp_graph.proofs.Validity.{valid}
use Rattle.chyp_graph.proofs.graph.Graph.of_term.Goals as goal

-- the draft is the graph of the term
lists : (c : goal.After-from_vec-4) → ◌≡◌ {A = PlainGraph}
    (record { wires = c.from_vec.result; edges = c.from_vec-2.result; inputs = c.from_vec-3.result; outputs = c.from_vec-4.result }) (graph_of (morphism_of c.args.term.now))
lists c =
    plain-same c.from_vec.ensures c.from_vec-2.ensures c.from_vec-3.ensures c.from_vec-4.ensures
    ∙ c.in_ok-place.ensures ∙ ap (λ d. beside_graph d (graph_of (morphism_of c.args.term.now))) c.new-draft.ensures ∙ place_empty (graph_of (morphism_of c.args.term.now))

pub of_parts-requires-clause-valid : goal.of_parts-requires-clause-valid
of_parts-requires-clause-valid c = subst IsValid (sym (lists c)) (valid (morphism_of c.args.term.now) c.requires.typed)

pub of_parts-requires-clause-few_wires : goal.of_parts-requires-clause-few_wires
of_parts-requires-clause-few_wires c =
    let e : length c.from_vec.result ≡ length (graph_of (morphism_of c.args.term.now)).wires = ap (λ g. length g.wires) (lists c) in
    let s = wires-size (morphism_of c.args.term.now) c.requires.typed in
    let r = c.requires.small in
    omega arith

pub of_parts-requires-clause-few_edges : goal.of_parts-requires-clause-few_edges
of_parts-requires-clause-few_edges c =
    let e : length c.from_vec-2.result ≡ length (graph_of (morphism_of c.args.term.now)).edges = ap (λ g. length g.edges) (lists c) in
    let s = edges-size (morphism_of c.args.term.now) in
    let r = c.requires.small in
    omega arith

pub returns : goal.returns
returns c = IfOk-weaker c.of_parts.result _ _ (λ _ done. done ∙ lists c.before) c.of_parts.ensures
