use Rattle.std.proofs.Common.{◌<◌, Some, refl, sym, ◌∙◌, ap, subst}
use Rattle.chyp_term.proofs.Closure.{get-item}
use Rattle.chyp_term.proofs.Slices.{all-is}
use Rattle.chyp_replace.proofs.Marking.{marked-more}
use Rattle.chyp_replace.proofs.images.edge_marks.Goals as goal

pub loop-edge-preserved : goal.loop-edge-preserved
loop-edge-preserved c =
    let images = c.args.images.now in
    let i = c.loop-edge.edge-index in
    let x = c.edge-item.result in
    marked-more images c.args.count c.loop-edge.marks.items _ i c.edge.inside.0
    (get-item images i x c.loop-edge-test.true c.edge-item.is ∙ ap (λ k. Some k) (sym c.edge.view_is))
    (subst (λ k. k < c.args.count) (sym c.edge.view_is) (all-is (λ k. k < c.args.count) images i x c.loop-edge-test.true c.edge-item.is c.requires))
    c.loop-edge.invariant refl
