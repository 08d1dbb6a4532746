use Rattle.std.proofs.Common.{◌≡◌, ◌+◌, map, take}
use Rattle.std.specs.List.{range_with_len}
use Rattle.chyp_layout.proofs.Gathering.{pieces_of}
use Rattle.chyp_layout.proofs.crossings.gaps_of.Given as goal

abbrev pub invariant-loop-line : goal.invariant-loop-line
invariant-loop-line l = l.gaps.items ≡ map (pieces_of l.picture (take l.line-index l.picture.lines)) (range_with_len 0 (l.picture.columns + 1))
