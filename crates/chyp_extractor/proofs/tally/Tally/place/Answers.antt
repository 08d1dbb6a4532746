use Rattle.std.proofs.Common.{◌≡◌, ◌+◌, ◌-◌, ◌<◌, ◌++◌, ◌∙◌, suc, All, add-one, ap, arith, length, length-append, subst, sym}
use Rattle.chyp_term.specs.Perm.{permuted}
use Rattle.chyp_term.proofs.Closure.{get-item}
use Rattle.chyp_graph.specs.PlainGraph.{sources_of, targets_of}
use Rattle.chyp_extract.specs.Measuring.{of_crossing, of_layer}
use Rattle.chyp_extract.specs.Placing.{placed_after}
use Rattle.chyp_extractor.specs.Fronts.{live_at, others_at, wanted_at}
use Rattle.chyp_extractor.specs.Measures.{kept}
use Rattle.chyp_extractor.specs.Tally.{AreWires, begins}
use Rattle.chyp_extractor.proofs.Capped.{measures-pushed}
use Rattle.chyp_extractor.proofs.Fronts.{round-reordered}
use Rattle.chyp_extractor.proofs.Tallies.{begins-counts, crossing-at, length-split, stack-next, stack-wires, targets-wires}
use Rattle.chyp_extractor.proofs.tally.Tally.place.Goals as goal

pub sources_of-requires : goal.sources_of-requires
sources_of-requires c =
    let r = c.requires.rounds.each c.args.n c.index.result.now (get-item c.args.rounds.now.edges.items c.args.n c.index.result.now c.requires.round c.index.ensures) in
    subst (All (λ k. k < length c.args.graph.now.edges)) (sym c.as_slice-edges.ensures) r.within

pub overflow_cast-self : goal.overflow_cast-self
overflow_cast-self c =
    let g = c.args.graph.now in
    let n = c.args.n in
    let v = c.valid.ensures.valid in
    let r = c.requires.rounds.each n c.index.result.now (get-item c.args.rounds.now.edges.items n c.index.result.now c.requires.round c.index.ensures) in
    let edges = ap (permuted g.edges) c.as_slice-edges.ensures ∙ r.edges in
    let s : length c.in_ok-sources.sources.items ≡ length (sources_of (placed_after g n)) = ap length (c.in_ok-sources.ensures ∙ ap sources_of edges) in
    let split = length-split g v n in
    let few = (round-reordered g v c.valid.ensures.few_wires n).few in
    let size = c.len.ensures in
    let ok = c.in_ok-sources.sources.ok.0 in
    let e = c.in_ok-cross.ensures.live in
    let t = c.requires.tally.live in
    record { fits = omega arith }

pub overflow_sub-self : goal.overflow_sub-self
overflow_sub-self c =
    let g = c.args.graph.now in
    let n = c.args.n in
    let v = c.valid.ensures.valid in
    let r = c.requires.rounds.each n c.index.result.now (get-item c.args.rounds.now.edges.items n c.index.result.now c.requires.round c.index.ensures) in
    let edges = ap (permuted g.edges) c.as_slice-edges.ensures ∙ r.edges in
    let s : length c.in_ok-sources.sources.items ≡ length (sources_of (placed_after g n)) = ap length (c.in_ok-sources.ensures ∙ ap sources_of edges) in
    let split = length-split g v n in
    let few = (round-reordered g v c.valid.ensures.few_wires n).few in
    let size = c.len.ensures in
    let ok = c.in_ok-sources.sources.ok.0 in
    let e = c.in_ok-cross.ensures.live in
    let t = c.requires.tally.live in
    omega arith

pub of_layer-requires-clause-within : goal.of_layer-requires-clause-within
of_layer-requires-clause-within c =
    let r = c.requires.rounds.each c.args.n c.index.result.now (get-item c.args.rounds.now.edges.items c.args.n c.index.result.now c.requires.round c.index.ensures) in
    subst (All (λ k. k < length c.args.graph.now.edges)) (sym c.as_slice-edges.ensures) r.within

pub of_layer-requires-clause-few : goal.of_layer-requires-clause-few
of_layer-requires-clause-few c =
    let g = c.args.graph.now in
    let n = c.args.n in
    let v = c.valid.ensures.valid in
    let r = c.requires.rounds.each n c.index.result.now (get-item c.args.rounds.now.edges.items n c.index.result.now c.requires.round c.index.ensures) in
    let edges = ap (permuted g.edges) c.as_slice-edges.ensures ∙ r.edges in
    let few = r.few in
    let most = c.valid.ensures.few_edges in
    let same = ap length c.as_slice-edges.ensures in
    omega arith

pub targets_of-requires : goal.targets_of-requires
targets_of-requires c =
    let r = c.requires.rounds.each c.args.n c.index.result.now (get-item c.args.rounds.now.edges.items c.args.n c.index.result.now c.requires.round c.index.ensures) in
    subst (All (λ k. k < length c.args.graph.now.edges)) (sym c.as_slice-edges.ensures) r.within

pub overflow_cast-self-2 : goal.overflow_cast-self-2
overflow_cast-self-2 c =
    let g = c.args.graph.now in
    let n = c.args.n in
    let v = c.valid.ensures.valid in
    let r = c.requires.rounds.each n c.index.result.now (get-item c.args.rounds.now.edges.items n c.index.result.now c.requires.round c.index.ensures) in
    let edges = ap (permuted g.edges) c.as_slice-edges.ensures ∙ r.edges in
    let q : length c.in_ok-targets.targets.items ≡ length (targets_of (placed_after g n)) = ap length (c.in_ok-targets.ensures ∙ ap targets_of edges) in
    let both = length-append (targets_of (placed_after g n)) (others_at g n) in
    let later = (round-reordered g v c.valid.ensures.few_wires (suc n)).few in
    let size' = c.len-2.ensures in
    let ok' = c.in_ok-targets.targets.ok.0 in
    record { fits = omega arith }

pub overflow_add-self : goal.overflow_add-self
overflow_add-self c =
    let g = c.args.graph.now in
    let n = c.args.n in
    let v = c.valid.ensures.valid in
    let r = c.requires.rounds.each n c.index.result.now (get-item c.args.rounds.now.edges.items n c.index.result.now c.requires.round c.index.ensures) in
    let edges = ap (permuted g.edges) c.as_slice-edges.ensures ∙ r.edges in
    let s : length c.in_ok-sources.sources.items ≡ length (sources_of (placed_after g n)) = ap length (c.in_ok-sources.ensures ∙ ap sources_of edges) in
    let split = length-split g v n in
    let few = (round-reordered g v c.valid.ensures.few_wires n).few in
    let size = c.len.ensures in
    let ok = c.in_ok-sources.sources.ok.0 in
    let e = c.in_ok-cross.ensures.live in
    let t = c.requires.tally.live in
    let q : length c.in_ok-targets.targets.items ≡ length (targets_of (placed_after g n)) = ap length (c.in_ok-targets.ensures ∙ ap targets_of edges) in
    let both = length-append (targets_of (placed_after g n)) (others_at g n) in
    let later = (round-reordered g v c.valid.ensures.few_wires (suc n)).few in
    let size' = c.len-2.ensures in
    let ok' = c.in_ok-targets.targets.ok.0 in
    record { fits = omega arith }

pub returns-clause-tally : goal.returns-clause-tally
returns-clause-tally c =
    let g = c.args.graph.now in
    let n = c.args.n in
    let v = c.valid.ensures.valid in
    let r = c.requires.rounds.each n c.index.result.now (get-item c.args.rounds.now.edges.items n c.index.result.now c.requires.round c.index.ensures) in
    let edges = ap (permuted g.edges) c.as_slice-edges.ensures ∙ r.edges in
    let s : length c.in_ok-sources.sources.items ≡ length (sources_of (placed_after g n)) = ap length (c.in_ok-sources.ensures ∙ ap sources_of edges) in
    let split = length-split g v n in
    let few = (round-reordered g v c.valid.ensures.few_wires n).few in
    let size = c.len.ensures in
    let ok = c.in_ok-sources.sources.ok.0 in
    let e = c.in_ok-cross.ensures.live in
    let t = c.requires.tally.live in
    let q : length c.in_ok-targets.targets.items ≡ length (targets_of (placed_after g n)) = ap length (c.in_ok-targets.ensures ∙ ap targets_of edges) in
    let both = length-append (targets_of (placed_after g n)) (others_at g n) in
    let later = (round-reordered g v c.valid.ensures.few_wires (suc n)).few in
    let size' = c.len-2.ensures in
    let ok' = c.in_ok-targets.targets.ok.0 in
    let next : length (live_at g (n + 1)) ≡ length (live_at g (suc n)) = ap (λ m. length (live_at g m)) (add-one n) in
    let targets = c.in_ok-targets.ensures ∙ ap targets_of edges in
    let stack = c.in_ok-extend_from_slice.ensures.items ∙ ap (λ l. c.cross.new.self.stack.items ++ l) (c.deref-2.ensures.value ∙ c.reverse.ensures.items) in
    record {
      wires = stack-wires g v n c.cross.new.self.stack.items c.extend_from_slice.new.self.items c.in_ok-targets.targets.items c.in_ok-cross.ensures.wires
          (subst (AreWires g) (sym targets) (targets-wires g v c.valid.ensures.few_wires n)) stack;
      unused = stack-next g v n c.args.self.now.stack.items c.cross.new.self.stack.items c.extend_from_slice.new.self.items c.deref.result.now c.in_ok-targets.targets.items
          c.requires.tally.unused (c.deref.ensures.value ∙ c.in_ok-sources.ensures ∙ ap sources_of edges) c.in_ok-cross.ensures.unused targets stack;
      live = omega arith;
    }

pub returns-clause-parts : goal.returns-clause-parts
returns-clause-parts c =
    let g = c.args.graph.now in
    let n = c.args.n in
    let v = c.valid.ensures.valid in
    let r = c.requires.rounds.each n c.index.result.now (get-item c.args.rounds.now.edges.items n c.index.result.now c.requires.round c.index.ensures) in
    let edges = ap (permuted g.edges) c.as_slice-edges.ensures ∙ r.edges in
    let s : length c.in_ok-sources.sources.items ≡ length (sources_of (placed_after g n)) = ap length (c.in_ok-sources.ensures ∙ ap sources_of edges) in
    let split = length-split g v n in
    let few = (round-reordered g v c.valid.ensures.few_wires n).few in
    let size = c.len.ensures in
    let ok = c.in_ok-sources.sources.ok.0 in
    let e = c.in_ok-cross.ensures.live in
    let t = c.requires.tally.live in
    let others : length (others_at g n) ≡ c.cross.new.self.live - c.len.result = omega arith in
    measures-pushed c.args.self.now.parts.items c.cross.new.self.parts.items c.push.new.self.items c.of_layer.result (of_crossing (live_at g n) (wanted_at g n))
    (of_layer (placed_after g n) (others_at g n))
    (c.in_ok-cross.ensures.parts ∙ ap (λ l. c.args.self.now.parts.items ++ l) (crossing-at g v n (begins c.deref.result.now (live_at g n))
    (ap (λ l. begins l (live_at g n)) (c.deref.ensures.value ∙ c.in_ok-sources.ensures ∙ ap sources_of edges) ∙ begins-counts g v n)))
    (c.of_layer.ensures (others_at g n) others ∙ ap (λ es. kept (of_layer es (others_at g n))) edges)
    c.in_ok-push.ensures.items
