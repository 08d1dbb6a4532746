use Rattle.std.proofs.Common.{◌<◌, length, refl, subst, arith}
use Rattle.chyp_term.proofs.Permuted.{found}
use Rattle.chyp_match.proofs.Counting.{known-none, product-end, product-more, product-none}
use Rattle.chyp_match.proofs.placement.placements.Goals as goal

pub loop-k-preserved : goal.loop-k-preserved
loop-k-preserved c =
    let l = c.args.pattern.now in
    let k = c.loop-k.k in
    let there : k < length l.anchors = subst (λ n. k < n) c.component_count-k-end.ensures c.loop-k-test.true in
    let a = found l.anchors k there in
    record {
      product =
          product-more l c.args.graph.now k c.loop-k.product c.choices_at-count.result c.saturating_mul-product.result a.0 a.1 c.loop-k.invariant.product
          (c.choices_at-count.ensures k a.0 refl a.1) c.saturating_mul-product.ensures;
      known = c.choices_at-count.ensures;
    }

pub loop-k-init : goal.loop-k-init
loop-k-init c = record { product = product-none c.args.pattern.now c.args.graph.now; known = known-none c.args.pattern.now c.args.graph.now 0 }

pub returns : goal.returns
returns c =
    let n = c.component_count-k-end.ensures in
    product-end c.args.pattern.now c.args.graph.now c.loop-k.k c.loop-k.product (omega (arith, c.loop-k-test.false)) c.loop-k.invariant.product
