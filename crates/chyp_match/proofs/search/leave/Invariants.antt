use Rattle.std.proofs.Common.{ℕ, ◌≡◌, ◌++◌, List, length}
use Rattle.chyp_match.specs.Search.{HoldAlike, IsPast, IsSearch, chosen}
use Rattle.chyp_match.proofs.search.leave.Given as goal

abbrev pub invariant-loop-level : goal.invariant-loop-level
invariant-loop-level l = record {
  search : IsSearch l.pattern l.graph l.search;
  alike : HoldAlike l.pattern l.graph (IsPast l.pattern (chosen l.initial.search.levels.levels)) (IsPast l.pattern (chosen l.search.levels.levels));
  begun : (more : List ℕ) × (chosen l.initial.search.levels.levels ≡ chosen l.search.levels.levels ++ more);
}

abbrev pub decreases-loop-level : goal.decreases-loop-level
decreases-loop-level l = length l.search.levels.levels
