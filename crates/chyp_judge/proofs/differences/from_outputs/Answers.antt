use Rattle.std.proofs.Common.{List, ℕ, sym, subst}
use Rattle.chyp_iso.specs.Port.{the_sources}
use Rattle.chyp_judge.specs.Walk.{MayBegin}
use Rattle.chyp_judge.proofs.Partnering.{ends-begin}
use Rattle.chyp_judge.proofs.differences.from_outputs.Goals as goal

pub from_ends-requires-clause-ends : goal.from_ends-requires-clause-ends
from_ends-requires-clause-ends c =
    let s = c.args.rewrite.now in
    subst (λ (vs : List ℕ). MayBegin s vs c.outputs.result.now) (sym c.outputs-2.ensures.outputs)
    (subst (λ (ws : List ℕ). MayBegin s s.to.outputs ws) (sym c.outputs.ensures.outputs) (ends-begin s c.requires c.outputs.ensures.valid c.outputs-2.ensures.valid the_sources))
