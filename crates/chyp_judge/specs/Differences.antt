-- Where a graph that is rewritten differs from the one that is to come out. No public clause cites this.
use Rattle.std.specs.Prelude.{IfSome}
use Rattle.chyp_judge.specs.Walk.{IsDifference}
use Rattle.chyp_judge.specs.declared.differences.Differences.{Differences}
use Rattle.chyp_judge.specs.declared.rewrite.Rewrite.{Rewrite}

-- each difference that is known is one of the rewriting
pub record AreDifferences (s : Rewrite) (known : Differences) : Type 0 where
  pub inputs : IfSome known.inputs (λ d. IsDifference s d.path.items)
  pub outputs : IfSome known.outputs (λ d. IsDifference s d.path.items)
