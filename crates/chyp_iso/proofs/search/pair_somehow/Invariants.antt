use Rattle.std.proofs.Common.{ℕ, ◌<◌, ◌≡◌, [], ◌∷◌}
use Rattle.chyp_iso.specs.Following.{Refutes}
use Rattle.chyp_pairs.specs.declared.pair.Pair.TheVariants.{Edges}
use Rattle.chyp_iso.proofs.search.pair_somehow.Given as goal

abbrev pub invariant-loop-f : goal.invariant-loop-f
invariant-loop-f l = record {
  same : l.pairing ≡ l.initial.pairing;
  refuted : (f : ℕ) → f < l.f → Refutes l.a l.b (Edges l.e f ∷ []) l.initial.pairing.pairs;
}
