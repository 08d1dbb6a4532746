use Rattle.std.proofs.Common.{ℕ, ◌<◌, ◌≡◌, Some, slice_get}
use Rattle.chyp_match.specs.Reach.{IsReach, LeadsTo}
use Rattle.chyp_match.specs.Convex.{IsTakenAt, MakesImage}
use Rattle.chyp_match.proofs.convex.is_unbroken.Given as goal

abbrev pub invariant-loop-u : goal.invariant-loop-u
invariant-loop-u l = record {
  reach : IsReach l.graph l.reach;
  none : (i u k : ℕ) → i < l.u-index → slice_get l.pattern.inputs i ≡ Some u → MakesImage l.graph l.pairing.pairs u k → IsTakenAt l.pattern l.graph l.pairing.pairs (λ j. LeadsTo l.graph j k) → ⊥;
}
