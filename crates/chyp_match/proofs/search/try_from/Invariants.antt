use Rattle.std.proofs.Common.{◌-◌, ◌≤◌, ◌≡◌, length, Some, slice_get}
use Rattle.std.specs.Option.{option_map_or}
use Rattle.chyp_pattern.specs.declared.anchor.Anchor.{Anchor}
use Rattle.chyp_match.specs.Search.{AreRuledOut, choices, chosen}
use Rattle.chyp_match.proofs.search.try_from.Given as goal

abbrev pub invariant-loop-seed : goal.invariant-loop-seed
invariant-loop-seed l = record {
  same : l.search ≡ l.initial.search;
  from_on : l.from ≤ l.place;
  k_is : l.k ≡ length l.initial.search.levels.levels;
  ruled : (anchor : Anchor) → slice_get l.pattern.anchors (length l.initial.search.levels.levels) ≡ Some anchor
      → AreRuledOut l.pattern l.graph (chosen l.initial.search.levels.levels) anchor l.from l.place;
}

abbrev pub decreases-loop-seed : goal.decreases-loop-seed
decreases-loop-seed l = option_map_or (λ a. length (choices l.pattern.graph l.graph a)) (slice_get l.pattern.anchors l.k) 0 - l.place
