use Rattle.std.proofs.Common.{◌<◌, ◌++◌, ◌∙◌, All, add-one, ap, ap₂, length, subst, sym}
use Rattle.chyp_term.specs.Perm.{permuted}
use Rattle.chyp_term.specs.Term.{morphisms_of}
use Rattle.chyp_term.proofs.Closure.{get-item}
use Rattle.chyp_graph.specs.PlainGraph.{sources_of, targets_of}
use Rattle.chyp_extract.specs.Extraction.{crossing, layer}
use Rattle.chyp_extract.specs.Placing.{placed_after}
use Rattle.chyp_extractor.specs.Crossing.{IsReordered}
use Rattle.chyp_extractor.specs.Fronts.{live_at, others_at, wanted_at}
use Rattle.chyp_extractor.proofs.Fronts.{others-within, parts-pushed, round-reordered}
use Rattle.chyp_extractor.proofs.front.Front.place.Goals as goal

pub sources_of-requires : goal.sources_of-requires
sources_of-requires c =
    let r = c.requires.rounds.each c.args.n c.index.result.now (get-item c.args.rounds.now.edges.items c.args.n c.index.result.now c.requires.round c.index.ensures) in
    subst (All (λ k. k < length c.args.graph.now.edges)) (sym c.as_slice-edges.ensures) r.within

pub cross-requires-clause-reordered : goal.cross-requires-clause-reordered
cross-requires-clause-reordered c =
    let g = c.args.graph.now in
    let n = c.args.n in
    let r = c.requires.rounds.each n c.index.result.now (get-item c.args.rounds.now.edges.items n c.index.result.now c.requires.round c.index.ensures) in
    let wanted = c.deref-3.ensures.value ∙ c.in_ok-extend_from_slice.ensures.items
    ∙ ap₂ (λ a b. a ++ b) (c.in_ok-wanted.ensures ∙ ap sources_of (ap (permuted g.edges) c.as_slice-edges.ensures ∙ r.edges)) (c.deref-2.ensures.value ∙ c.in_ok-others.ensures) in
    subst (λ live. IsReordered g live c.deref-3.result.now) (sym c.requires.front.live)
    (subst (IsReordered g (live_at g n)) (sym wanted) (round-reordered g c.valid.ensures.valid c.valid.ensures.few_wires n))

pub layer-requires-clause-edges : goal.layer-requires-clause-edges
layer-requires-clause-edges c =
    let r = c.requires.rounds.each c.args.n c.index.result.now (get-item c.args.rounds.now.edges.items c.args.n c.index.result.now c.requires.round c.index.ensures) in
    subst (All (λ k. k < length c.args.graph.now.edges)) (sym c.as_slice-edges.ensures) r.within

pub layer-requires-clause-wires : goal.layer-requires-clause-wires
layer-requires-clause-wires c =
    let g = c.args.graph.now in
    subst (All (λ w. w < length g.wires)) (sym (c.deref-4.ensures.value ∙ c.in_ok-others.ensures)) (others-within g c.valid.ensures.valid c.valid.ensures.few_wires c.args.n)

pub targets_of-requires : goal.targets_of-requires
targets_of-requires c =
    let r = c.requires.rounds.each c.args.n c.index.result.now (get-item c.args.rounds.now.edges.items c.args.n c.index.result.now c.requires.round c.index.ensures) in
    subst (All (λ k. k < length c.args.graph.now.edges)) (sym c.as_slice-edges.ensures) r.within

pub returns-clause-front : goal.returns-clause-front
returns-clause-front c =
    let g = c.args.graph.now in
    let n = c.args.n in
    let r = c.requires.rounds.each n c.index.result.now (get-item c.args.rounds.now.edges.items n c.index.result.now c.requires.round c.index.ensures) in
    record {
      live =
          c.in_ok-extend_from_slice-2.ensures.items
          ∙ ap₂ (λ a b. a ++ b) (c.in_ok-live.ensures ∙ ap targets_of (ap (permuted g.edges) c.as_slice-edges.ensures ∙ r.edges)) (c.deref-5.ensures.value ∙ c.in_ok-others.ensures)
          ∙ ap (live_at g) (sym (add-one n));
      places = c.in_ok-cross.ensures.places;
    }

pub returns-clause-parts : goal.returns-clause-parts
returns-clause-parts c =
    let g = c.args.graph.now in
    let n = c.args.n in
    let r = c.requires.rounds.each n c.index.result.now (get-item c.args.rounds.now.edges.items n c.index.result.now c.requires.round c.index.ensures) in
    let edges = ap (permuted g.edges) c.as_slice-edges.ensures ∙ r.edges in
    let wanted = c.deref-3.ensures.value ∙ c.in_ok-extend_from_slice.ensures.items
    ∙ ap₂ (λ a b. a ++ b) (c.in_ok-wanted.ensures ∙ ap sources_of edges) (c.deref-2.ensures.value ∙ c.in_ok-others.ensures) in
    parts-pushed c.args.self.now.parts.items c.cross.new.self.parts.items c.push.new.self.items c.in_ok-layer.field-0 (crossing g (live_at g n) (wanted_at g n))
    (layer g (placed_after g n) (others_at g n))
    (c.in_ok-cross.ensures.parts ∙ ap (λ x. morphisms_of c.args.self.now.parts.items ++ x) (ap₂ (crossing g) c.requires.front.live wanted))
    (c.in_ok-layer.ensures ∙ ap₂ (layer g) edges (c.deref-4.ensures.value ∙ c.in_ok-others.ensures))
    c.in_ok-push.ensures.items
