use Rattle.std.proofs.Common.{◌+◌, ◌-◌, []}
use Rattle.chyp_iso.specs.Following.{Leads}
use Rattle.chyp_match.specs.Following.{AreFollowed}
use Rattle.chyp_match.proofs.follow.follow_all.Given as goal

abbrev pub invariant-loop-next : goal.invariant-loop-next
invariant-loop-next l = record {
  leads : Leads l.pattern l.graph [] l.initial.pairing l.pairing;
  followed : AreFollowed l.pattern l.graph l.pairing.pairs l.next;
}

abbrev pub decreases-loop-next : goal.decreases-loop-next
decreases-loop-next l = l.pairing.edges + l.pairing.wires - l.next
