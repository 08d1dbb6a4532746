use Rattle.std.proofs.Common.{◌<◌, true, IfSome, length, slice_set, sym, subst, ◌∙◌, arith}
use Rattle.std.proofs.Math.ListN.{length-set}
use Rattle.chyp_term.proofs.Closure.{get-item}
use Rattle.chyp_judge.specs.Walk.{IsTraced}
use Rattle.chyp_judge.proofs.Tracing.{back-less, back-there, left_to, traced-more}
use Rattle.chyp_judge.proofs.difference.Difference.at.Goals as goal

pub loop-next-smaller : goal.loop-next-smaller
loop-next-smaller c =
    let w = c.args.walk.now in
    let p = c.index.result.now in
    let there : c.in-Some.i < length w.partners.items = subst (λ o. IfSome o (λ j. j < length w.partners.items)) c.in-Some.is c.loop-next.invariant.there in
    let e = get-item w.partners.items c.in-Some.i p there c.index.ensures in
    subst (λ o. left_to p.origin < left_to o) (sym c.in-Some.is) (back-less w c.requires.walk c.in-Some.i p e)

pub loop-next-preserved : goal.loop-next-preserved
loop-next-preserved c =
    let w = c.args.walk.now in
    let p = c.index.result.now in
    let marks = c.loop-next.path.items in
    let there : c.in-Some.i < length w.partners.items = subst (λ o. IfSome o (λ j. j < length w.partners.items)) c.in-Some.is c.loop-next.invariant.there in
    let e = get-item w.partners.items c.in-Some.i p there c.index.ensures in
    let size = c.loop-next.invariant.size in
    let wire = (c.requires.walk.within c.in-Some.i p e).wire in
    let traced = subst (IsTraced w.rewrite.now w.partners.items marks) c.in-Some.is c.loop-next.invariant.traced in
    record {
      size = length-set marks c.wire.inside.0 true ∙ size;
      there = back-there w c.requires.walk c.in-Some.i p e there;
      traced = subst (λ v. IsTraced w.rewrite.now w.partners.items (slice_set marks v true) p.origin) (sym c.wire.view_is)
          (traced-more w c.requires.walk marks c.in-Some.i p e (omega arith) traced);
    }
