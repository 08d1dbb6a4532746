use Rattle.std.proofs.Common.{◌+◌, length}
use Rattle.chyp_match.specs.Reach.{IsReach}
use Rattle.chyp_match.specs.Search.{IsEarlier, IsMoved, chosen}
use Rattle.chyp_match.proofs.Lexicographic.{left}
use Rattle.chyp_match.proofs.search.find.Given as goal

abbrev pub invariant-loop-reach : goal.invariant-loop-reach
invariant-loop-reach l = record {
  moved : IsMoved l.pattern l.graph (IsEarlier l.pattern (chosen l.initial.search.levels.levels)) l.search;
  reach : IsReach l.graph l.reach;
}

abbrev pub decreases-loop-reach : goal.decreases-loop-reach
decreases-loop-reach l = left (length l.graph.edges + length l.graph.wires) (length l.pattern.anchors) (chosen l.search.levels.levels)
