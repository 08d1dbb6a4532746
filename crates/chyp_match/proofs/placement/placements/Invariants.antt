use Rattle.chyp_pattern.specs.Placements.{IsKnownBefore}
use Rattle.chyp_match.proofs.Counting.{IsProductOf}
use Rattle.chyp_match.proofs.placement.placements.Given as goal

abbrev pub invariant-loop-k : goal.invariant-loop-k
invariant-loop-k l = record {
  product : IsProductOf l.pattern l.graph l.k l.product;
  known : IsKnownBefore l.pattern l.graph l.k l.count;
}
