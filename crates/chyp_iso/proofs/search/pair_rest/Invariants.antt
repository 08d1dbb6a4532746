use Rattle.std.proofs.Common.{◌≡◌}
use Rattle.chyp_iso.specs.Search.{AreKnown, IsExtended}
use Rattle.chyp_iso.proofs.search.pair_rest.Given as goal

abbrev pub invariant-loop-e : goal.invariant-loop-e
invariant-loop-e l = record {
  extended : IsExtended l.a l.b l.initial.pairing l.pairing;
  known : AreKnown l.pairing.pairs l.e;
  edges : l.pairing.edges ≡ l.initial.pairing.edges;
  wires : l.pairing.wires ≡ l.initial.pairing.wires;
}
