use Rattle.std.proofs.Common.{ℕ, ◌<◌, ◌≡◌, Some, slice_get}
use Rattle.chyp_match.specs.Convex.{TakesImage}
use Rattle.chyp_match.specs.Row.{IsMarked}
use Rattle.chyp_match.proofs.convex.is_taken.Given as goal

abbrev pub invariant-loop-v : goal.invariant-loop-v
invariant-loop-v l = (i v j : ℕ) → i < l.v-index → slice_get l.pattern.outputs i ≡ Some v → TakesImage l.graph l.pairing.pairs v j → IsMarked l.row.marks j → ⊥
