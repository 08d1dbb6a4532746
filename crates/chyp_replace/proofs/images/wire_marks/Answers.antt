use Rattle.std.proofs.Common.{◌<◌, Some, refl, sym, ◌∙◌, ap, subst}
use Rattle.chyp_term.proofs.Closure.{get-item}
use Rattle.chyp_term.proofs.Slices.{all-is}
use Rattle.chyp_replace.proofs.Marking.{marked-more}
use Rattle.chyp_replace.proofs.images.wire_marks.Goals as goal

pub loop-wire-preserved : goal.loop-wire-preserved
loop-wire-preserved c =
    let images = c.args.images.now in
    let i = c.loop-wire.wire-index in
    let x = c.wire-item.result in
    marked-more images c.args.count c.loop-wire.marks.items _ i c.wire.inside.0
    (get-item images i x c.loop-wire-test.true c.wire-item.is ∙ ap (λ k. Some k) (sym c.wire.view_is))
    (subst (λ k. k < c.args.count) (sym c.wire.view_is) (all-is (λ k. k < c.args.count) images i x c.loop-wire-test.true c.wire-item.is c.requires))
    c.loop-wire.invariant refl
