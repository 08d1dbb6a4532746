use Rattle.chyp_pattern.specs.Placements.{IsOfSort}
use Rattle.chyp_match.proofs.Counting.{IsCountBelow}
use Rattle.chyp_match.proofs.placement.wires_of.Given as goal

abbrev pub invariant-loop-w : goal.invariant-loop-w
invariant-loop-w l = IsCountBelow (IsOfSort l.graph l.sort) l.w l.count
