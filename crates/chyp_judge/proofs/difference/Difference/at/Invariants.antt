use Rattle.std.proofs.Common.{◌<◌, ◌≡◌, IfSome, length}
use Rattle.chyp_judge.specs.Walk.{IsTraced}
use Rattle.chyp_judge.proofs.Tracing.{left_to}
use Rattle.chyp_judge.proofs.difference.Difference.at.Given as goal

abbrev pub invariant-loop-next : goal.invariant-loop-next
invariant-loop-next l = record {
  size : length l.path.items ≡ length l.walk.rewrite.now.from.wires;
  there : IfSome l.next (λ j. j < length l.walk.partners.items);
  traced : IsTraced l.walk.rewrite.now l.walk.partners.items l.path.items l.next;
}

abbrev pub decreases-loop-next : goal.decreases-loop-next
decreases-loop-next l = left_to l.next
