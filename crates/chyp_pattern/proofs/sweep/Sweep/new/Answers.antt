use Rattle.std.proofs.Common.{arith}
use Rattle.chyp_pattern.proofs.Sweeping.{kept-none}
use Rattle.chyp_pattern.proofs.sweep.Sweep.new.Goals as goal

pub invariant_of-result : goal.invariant_of-result
invariant_of-result c =
    kept-none c.in_ok-vec.field-0.items _ c.args.edges _ (c.in_ok-vec.ensures.items_if_clones_equal (λ y e. e)) c.in_ok-with_capacity.ensures.items
    (let e = c.in_ok-with_capacity.ensures.exact in omega arith)
