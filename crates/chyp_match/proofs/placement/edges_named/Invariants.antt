use Rattle.chyp_pattern.specs.Placements.{IsNamed}
use Rattle.chyp_match.proofs.Counting.{IsCountBelow}
use Rattle.chyp_match.proofs.placement.edges_named.Given as goal

abbrev pub invariant-loop-k : goal.invariant-loop-k
invariant-loop-k l = IsCountBelow (IsNamed l.graph l.name) l.k l.count
