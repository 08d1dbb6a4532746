use Rattle.std.proofs.Common.{◌≡◌, ◌+◌, filter, not, take}
use Rattle.chyp_extractor.specs.Fronts.{is_used_within}
use Rattle.chyp_extractor.proofs.front.passed_by.Given as goal

abbrev pub invariant-loop-w : goal.invariant-loop-w
invariant-loop-w l = l.others.items ≡ filter (λ w. not (is_used_within l.graph (l.n + 1) w)) (take l.w-index l.live)
