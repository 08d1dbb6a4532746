use Rattle.chyp_term.proofs.Counting.{blocks_perm}
use Rattle.chyp_term.proofs.perm.Perm.block_swap.Goals as goal

pub invariant_of-result : goal.invariant_of-result
invariant_of-result c =
    blocks_perm c.args.m c.args.n _ _ _ _ c.in_ok-places.ensures.items c.in_ok-push_range.ensures c.in_ok-push_range-2.ensures c.from_vec.ensures
