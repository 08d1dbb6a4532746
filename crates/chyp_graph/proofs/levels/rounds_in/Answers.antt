use Rattle.std.proofs.Common.{◌≡◌, ◌<◌, ◌+◌, ◌⊎◌, ◌∙◌, ℕ, All, Some, length, slice_get, slice_index, take, sym, ap, subst, arith}
use Rattle.std.proofs.Math.ListN.{length-set}
use Rattle.chyp_term.proofs.Positions.{slice_get-length}
use Rattle.chyp_graph.specs.PlainGraph.{Edge}
use Rattle.chyp_graph.specs.Removal.{AreLevels, IsWritten, live_behind}
use Rattle.chyp_graph.specs.Rounds.{IsRound}
use Rattle.chyp_term.proofs.Closure.{get-item}
use Rattle.chyp_term.proofs.Slices.{written-back}
use Rattle.chyp_graph.proofs.Levelling.{levels-more, known-more, least-positive, round-is, rounds-known}
use Rattle.chyp_graph.proofs.Removing.{sources-within, targets-wires}
use Rattle.chyp_graph.proofs.levels.rounds_in.Goals as goal

pub round_after-round-requires-clause-within : goal.round_after-round-requires-clause-within
round_after-round-requires-clause-within c =
    let e : Edge = record { name = c.edge-edge.result.name.now; sources = c.edge-edge.result.sources.now; targets = c.edge-edge.result.targets.now } in
    sources-within c.args.graph.now c.requires.valid c.k.inside.0 (length c.deref.result.now) e c.edge-edge.ensures (ap length c.deref.ensures.value ∙ c.loop-k.invariant.dated.size)

pub write_at-requires : goal.write_at-requires
write_at-requires c =
    let e : Edge = record { name = c.edge-edge.result.name.now; sources = c.edge-edge.result.sources.now; targets = c.edge-edge.result.targets.now } in
    subst (λ n. All (λ w. w < n) e.targets) (sym (ap length c.deref_mut.ensures.value ∙ c.loop-k.invariant.dated.size))
    (targets-wires c.args.graph.now c.requires.valid c.k.inside.0 e c.edge-edge.ensures)

pub loop-k-preserved : goal.loop-k-preserved
loop-k-preserved c =
    let g = c.args.graph.now in
    let v = c.requires.valid in
    let order = c.args.order.now in
    let j = c.loop-k.k-index in
    let k = c.k.inside.0 in
    let r = c.round_after-round.result in
    let levels = c.loop-k.levels.items in
    let e : Edge = record { name = c.edge-edge.result.name.now; sources = c.edge-edge.result.sources.now; targets = c.edge-edge.result.targets.now } in
    let is : k ≡ c.k-item.result = c.k.view_is in
    let h : slice_get order j ≡ Some k = get-item order j c.k-item.result c.loop-k-test.true c.k-item.is ∙ ap (λ x. Some x) (sym is) in
    let q : slice_get g.edges k ≡ Some e = c.edge-edge.ensures in
    let few = c.edge_count.ensures.few in
    let count = c.edge_count.ensures.count in
    let small : length g.edges < 2147483648 = omega arith in
    let d = c.loop-k.invariant.dated in
    let same = c.deref.ensures.value in
    let above = subst (λ l. (i : ℕ) → i < length e.sources → slice_index l (slice_index e.sources i) < r) same c.round_after-round.ensures.above in
    let least = subst (λ l. (r ≡ 1) ⊎ ((i : ℕ) × (i < length e.sources) × (slice_index l (slice_index e.sources i) + 1 ≡ r))) same c.round_after-round.ensures.least in
    let t : IsRound g e r = round-is g (live_behind g (take j order)) levels e r d (c.requires.order.in_order j k e h q)
    (sources-within g v k (length levels) e q d.size) above least (least-positive levels e.sources r least) in
    let u : IsWritten e.targets r levels c.write_at.new.levels = subst (λ l. IsWritten e.targets r l c.write_at.new.levels) c.deref_mut.ensures.value c.write_at.ensures in
    let room = slice_get-length g.edges k e q in
    let size = c.loop-k.invariant.size in
    record {
      size = length-set c.loop-k.rounds.items k r ∙ size;
      dated = subst (AreLevels g (live_behind g (take (j + 1) order))) (sym (written-back c.write_at.new.levels levels c.loop-k.levels.len c.loop-k.levels.ok.0 u.size))
          (levels-more g v small order levels c.write_at.new.levels j k r e h q t d u);
      each = known-more g order c.loop-k.rounds.items j k r e h q (omega arith) t c.loop-k.invariant.each;
    }

pub returns : goal.returns
returns c =
    let t = c.loop-k-test.false in
    rounds-known c.args.graph.now c.args.order.now c.loop-k.rounds.items c.loop-k.k-index c.requires.order c.loop-k.invariant.size (omega arith) c.loop-k.invariant.each
