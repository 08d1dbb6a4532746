use Rattle.std.proofs.Common.{arith, rules}
use Rattle.chyp_pairs.proofs.Tables.{kept-none}
use Rattle.chyp_pairs.proofs.pairing.Pairing.new.Goals as goal

pub invariant_of-result : goal.invariant_of-result
invariant_of-result c = kept-none c.args.edges c.args.wires _ _ _ _ _ _
    c.in_ok-with_capacity.ensures.items (search rules) (search rules) (search rules) (search rules)
    (let e = c.in_ok-with_capacity.ensures.exact in omega arith)
