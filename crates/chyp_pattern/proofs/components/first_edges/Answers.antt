use Rattle.std.proofs.Common.{◌≡◌, ◌∙◌, ◌<◌, ◌+◌, subst, sym, arith}
use Rattle.chyp_pattern.proofs.Anchoring.{AreFirstBelow, first-closed, first-end, first-push, first-skip}
use Rattle.chyp_pattern.proofs.components.first_edges.Goals as goal
use Rattle.chyp_pattern.proofs.components.first_edges.Goals.{then-not-has+in_ok-push, else-not-has}

pub find_component-requires-clause-closed : goal.find_component-requires-clause-closed
find_component-requires-clause-closed c = first-closed c.args.graph.now c.loop-k.k c.loop-k.anchors.items c.loop-k.sweep c.loop-k.invariant

pub loop-k-preserved : goal.loop-k-preserved
loop-k-preserved c =
    let g = c.args.graph.now in
    let k = c.loop-k.k in
    elim c.if-not-has.branch [
      | then-not-has+in_ok-push w ↦
          subst (λ s. AreFirstBelow g (k + 1) c.if-not-has.anchors.items s) (sym w.sweep-is) (subst (λ (list : _). AreFirstBelow g (k + 1) list.items w.find_component.new.sweep) (sym w.anchors-is)
          (first-push g k c.loop-k.anchors.items w.push.new.self.items c.loop-k.sweep w.find_component.new.sweep c.loop-k.invariant
          (subst (λ n. k < n) c.edge_count-k-end.ensures.count c.loop-k-test.true) w.if-not-has.ensures w.in_ok-push.ensures.items w.find_component.ensures))
      | else-not-has w ↦
          subst (λ s. AreFirstBelow g (k + 1) c.if-not-has.anchors.items s) (sym w.sweep-is) (subst (λ (list : _). AreFirstBelow g (k + 1) list.items c.loop-k.sweep) (sym w.anchors-is)
          (first-skip g k c.loop-k.anchors.items c.loop-k.sweep c.loop-k.invariant w.if-not-has.ensures))
    ]

pub returns : goal.returns
returns c =
    let end : c.loop-k.k ≡ c.edge_count-k-end.result = omega (arith, c.loop-k-test.false, c.loop-k.auto.k-end) in
    first-end c.args.graph.now c.loop-k.k c.loop-k.anchors.items c.loop-k.sweep (end ∙ c.edge_count-k-end.ensures.count) c.loop-k.invariant
