use Rattle.std.proofs.Common.{◌≡◌, ◌∙◌, ◌+◌, refl, subst, sym, arith, true≢false, ap, Some}
use Rattle.chyp_pattern.specs.Placements.{IsOfSort}
use Rattle.chyp_match.proofs.Counting.{IsCountBelow, count-end, count-push, count-skip, sort-below, sort-one}
use Rattle.chyp_match.proofs.placement.wires_of.Goals as goal
use Rattle.chyp_match.proofs.placement.wires_of.Goals.{then-eq, else-eq}

pub loop-w-preserved : goal.loop-w-preserved
loop-w-preserved c =
    let P = IsOfSort c.args.graph.now c.args.sort.now in
    elim c.if-eq.branch [
      | then-eq x ↦ subst (IsCountBelow P (c.loop-w.w + 1)) (sym x.count-is)
          (count-push P c.loop-w.w c.loop-w.count c.loop-w.invariant (c.wire_sort.ensures ∙ ap (λ s. Some s) (x.if-eq.ensures.same.0 refl)))
      | else-eq x ↦ subst (IsCountBelow P (c.loop-w.w + 1)) (sym x.count-is)
          (count-skip P c.loop-w.w c.loop-w.count c.loop-w.invariant
          (λ p. absurd (true≢false (sym (x.if-eq.ensures.same.1 (sort-one c.args.graph.now c.wire_sort.result.now c.args.sort.now c.loop-w.w c.wire_sort.ensures p))))))
    ]

pub returns : goal.returns
returns c =
    let end : c.loop-w.w ≡ c.wire_count-w-end.result = omega (arith, c.loop-w-test.false, c.loop-w.auto.w-end) in
    count-end (IsOfSort c.args.graph.now c.args.sort.now) c.loop-w.w c.loop-w.count (sort-below c.args.graph.now c.args.sort.now c.loop-w.w (end ∙ c.wire_count-w-end.ensures.count))
    c.loop-w.invariant
