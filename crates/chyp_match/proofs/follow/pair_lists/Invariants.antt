use Rattle.std.proofs.Common.{ℕ, ◌<◌, ◌≡◌, Some, slice_get}
use Rattle.chyp_iso.specs.Pair.{wire_pairs}
use Rattle.chyp_pairs.specs.Pairs.{Has}
use Rattle.chyp_iso.specs.Following.{Leads}
use Rattle.chyp_pairs.specs.declared.pair.Pair.TheVariants.{Wires}
use Rattle.chyp_match.proofs.follow.pair_lists.Given as goal

abbrev pub invariant-loop-i : goal.invariant-loop-i
invariant-loop-i l = record {
  leads : Leads l.pattern l.graph (wire_pairs l.vs l.ws) l.initial.pairing l.pairing;
  paired : (j v w : ℕ) → j < l.i → slice_get l.vs j ≡ Some v → slice_get l.ws j ≡ Some w → Has l.pairing.pairs (Wires v w);
}
