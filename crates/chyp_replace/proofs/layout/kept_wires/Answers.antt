use Rattle.std.proofs.Common.{◌≡◌, ◌∙◌, ◌+◌, ◌≤◌, ◌++◌, ◌∷◌, [], Bool, true, false, not, ap, arith, length}
use Rattle.chyp_term.specs.Perm.{permuted}
use Rattle.chyp_term.specs.Positions.{is_apart}
use Rattle.chyp_graph.specs.Composition.{inner}
use Rattle.chyp_replace.proofs.Keeping.{kept-few, kept-length, kept-push, kept-skip, mark-apart, number-more}
use Rattle.chyp_replace.proofs.layout.kept_wires.Goals as goal
use Rattle.chyp_replace.proofs.layout.kept_wires.Goals.{then-not-index+in_ok-share+in_ok-push-2, else-not-index}

pub overflow_cast-len : goal.overflow_cast-len
overflow_cast-len c =
    let n = c.wire_count-count.ensures.count in
    let few = c.wire_count-count.ensures.few in
    let t = c.loop-w-test.true in
    let l = c.len.ensures ∙ c.loop-w.wires.ok.0 in
    let k = kept-few c.args.graph.now.wires c.args.images.now c.loop-w.w c.loop-w.wires.items c.loop-w.invariant.0 (omega arith) in
    record { fits = omega arith }

pub loop-w-preserved : goal.loop-w-preserved
loop-w-preserved c =
    let sorts = c.args.graph.now.wires in
    let images = c.args.images.now in
    let w = c.loop-w.w in
    let n = c.wire_count-count.ensures.count in
    let t = c.loop-w-test.true in
    let h : w ≤ length sorts = omega arith in
    let mark = c.index.result.now in
    let apart : (b : Bool) → mark ≡ b → is_apart images w ≡ not b = λ b e. mark-apart images c.wire_count-count.result c.in_ok-marks.marks.items w mark b c.in_ok-marks.ensures t c.index.ensures e in
    let wires : c.if-not-index.wires.items ≡ permuted sorts (inner images (w + 1)) =
    elim c.if-not-index.branch [
      | then-not-index+in_ok-share+in_ok-push-2 x ↦
          kept-push sorts images w c.loop-w.wires.items c.loop-w.invariant.0 x.wire_sort.result.now c.if-not-index.wires.items (apart false x.if-not-index.true) x.wire_sort.ensures
          (ap (λ v. v.items) x.wires-is ∙ x.in_ok-push-2.ensures.items ∙ ap (λ s. c.loop-w.wires.items ++ s ∷ []) x.in_ok-share.ensures)
      | else-not-index x ↦ ap (λ v. v.items) x.wires-is ∙ kept-skip sorts images w c.loop-w.wires.items c.loop-w.invariant.0 (apart true x.if-not-index.false)
    ] in (
      wires,
      number-more images w c.len.result c.loop-w.before.items c.push.new.self.items c.loop-w.invariant.1
          (c.len.ensures ∙ c.loop-w.wires.ok.0 ∙ kept-length sorts images w c.loop-w.wires.items c.loop-w.invariant.0 h) c.in_ok-push.ensures.items,
    )
