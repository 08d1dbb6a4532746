use Rattle.std.proofs.Common.{List, ℕ, sym, subst}
use Rattle.chyp_iso.specs.Port.{the_targets}
use Rattle.chyp_judge.specs.Walk.{MayBegin}
use Rattle.chyp_judge.proofs.Partnering.{ends-begin}
use Rattle.chyp_judge.proofs.differences.from_inputs.Goals as goal

pub from_ends-requires-clause-ends : goal.from_ends-requires-clause-ends
from_ends-requires-clause-ends c =
    let s = c.args.rewrite.now in
    subst (λ (vs : List ℕ). MayBegin s vs c.inputs.result.now) (sym c.inputs-2.ensures.inputs)
    (subst (λ (ws : List ℕ). MayBegin s s.to.inputs ws) (sym c.inputs.ensures.inputs) (ends-begin s c.requires c.inputs.ensures.valid c.inputs-2.ensures.valid the_targets))
