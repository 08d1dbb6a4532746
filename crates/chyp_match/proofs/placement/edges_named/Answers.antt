use Rattle.std.proofs.Common.{◌≡◌, ◌∙◌, ◌+◌, refl, subst, sym, arith, true≢false}
use Rattle.chyp_pattern.specs.Placements.{IsNamed}
use Rattle.chyp_match.proofs.Counting.{IsCountBelow, count-end, count-push, count-skip, named-below, named-one}
use Rattle.chyp_match.proofs.placement.edges_named.Goals as goal
use Rattle.chyp_match.proofs.placement.edges_named.Goals.{then-eq, else-eq}

pub loop-k-preserved : goal.loop-k-preserved
loop-k-preserved c =
    let P = IsNamed c.args.graph.now c.args.name.now in
    elim c.if-eq.branch [
      | then-eq w ↦ subst (IsCountBelow P (c.loop-k.k + 1)) (sym w.count-is)
          (count-push P c.loop-k.k c.loop-k.count c.loop-k.invariant (record { edge = _; is = c.edge.ensures; named = w.if-eq.ensures.same.0 refl }))
      | else-eq w ↦ subst (IsCountBelow P (c.loop-k.k + 1)) (sym w.count-is)
          (count-skip P c.loop-k.k c.loop-k.count c.loop-k.invariant (λ p. absurd (true≢false
          (sym (w.if-eq.ensures.same.1 (named-one c.args.graph.now c.args.name.now c.loop-k.k _ c.edge.ensures p))))))
    ]

pub returns : goal.returns
returns c =
    let end : c.loop-k.k ≡ c.edge_count-k-end.result = omega (arith, c.loop-k-test.false, c.loop-k.auto.k-end) in
    count-end (IsNamed c.args.graph.now c.args.name.now) c.loop-k.k c.loop-k.count (named-below c.args.graph.now c.args.name.now c.loop-k.k (end ∙ c.edge_count-k-end.ensures.count))
    c.loop-k.invariant
