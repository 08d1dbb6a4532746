use Rattle.std.proofs.Common.{◌+◌, arith, subst, sym}
use Rattle.chyp_extractor.specs.Measures.{IsHalvedDepth}
use Rattle.chyp_extractor.proofs.Capped.{log-depth}
use Rattle.chyp_extractor.proofs.measures.halved_depth.Goals as goal

pub returns : goal.returns
returns c =
    let f = c.if-count-eq1.false in
    let r = c.requires in
    subst (λ k. IsHalvedDepth c.args.count (k + 2)) (sym c.from.ensures) (log-depth c.args.count c.ilog2.result (omega arith) c.ilog2.ensures.power_le c.ilog2.ensures.next_power_gt)
