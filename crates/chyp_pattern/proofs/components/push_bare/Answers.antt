use Rattle.std.proofs.Common.{◌≡◌, ◌∙◌, ◌+◌, subst, sym, arith}
use Rattle.chyp_pattern.proofs.Anchoring.{AreBareBelow, bare-end, bare-none, bare-push, bare-skip}
use Rattle.chyp_pattern.proofs.components.push_bare.Goals as goal
use Rattle.chyp_pattern.proofs.components.push_bare.Goals.{then-is_bare+in_ok-push, else-is_bare}

pub loop-w-init : goal.loop-w-init
loop-w-init c = bare-none c.args.graph.now c.args.anchors.now.items

pub loop-w-preserved : goal.loop-w-preserved
loop-w-preserved c =
    let g = c.args.graph.now in
    let w = c.loop-w.w in
    let old = c.args.anchors.now.items in
    elim c.if-is_bare.branch [
      | then-is_bare+in_ok-push x ↦
          subst (λ (list : _). AreBareBelow g (w + 1) old list.items) (sym x.anchors-is)
          (bare-push g w old c.loop-w.anchors.items x.push.new.self.items c.loop-w.invariant x.if-is_bare.ensures x.in_ok-push.ensures.items)
      | else-is_bare x ↦ subst (λ (list : _). AreBareBelow g (w + 1) old list.items) (sym x.anchors-is) (bare-skip g w old c.loop-w.anchors.items c.loop-w.invariant x.if-is_bare.ensures)
    ]

pub returns : goal.returns
returns c =
    let end : c.loop-w.w ≡ c.wire_count-w-end.result = omega (arith, c.loop-w-test.false, c.loop-w.auto.w-end) in
    bare-end c.args.graph.now c.loop-w.w c.args.anchors.now.items c.loop-w.anchors.items (end ∙ c.wire_count-w-end.ensures.count) c.loop-w.invariant
