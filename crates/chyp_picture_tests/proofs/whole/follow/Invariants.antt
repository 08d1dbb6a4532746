use Rattle.std.proofs.Common.{◌≡◌, ℕ, ◌+◌, ◌<◌, get_or, map}
use Rattle.chyp_picture_tests.proofs.whole.follow.Given as goal

abbrev pub invariant-loop-index : goal.invariant-loop-index
invariant-loop-index l = (k : ℕ) → k < l.index → get_or (map (λ b. b.column) l.bends) k 0 ≡ l.start + 1 + k
