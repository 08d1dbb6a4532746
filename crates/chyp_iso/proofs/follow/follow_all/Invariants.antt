use Rattle.std.proofs.Common.{◌+◌, ◌-◌, []}
use Rattle.chyp_iso.specs.Following.{AreFollowed, Leads}
use Rattle.chyp_iso.proofs.follow.follow_all.Given as goal

abbrev pub invariant-loop-next : goal.invariant-loop-next
invariant-loop-next l = record {
  leads : Leads l.a l.b [] l.initial.pairing l.pairing;
  followed : AreFollowed l.a l.b l.pairing.pairs l.next;
}

abbrev pub decreases-loop-next : goal.decreases-loop-next
decreases-loop-next l = l.pairing.edges + l.pairing.wires - l.next
