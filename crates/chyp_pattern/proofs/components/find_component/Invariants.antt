use Rattle.std.proofs.Common.{◌-◌}
use Rattle.chyp_pattern.proofs.Joined.{IsComponentPart}
use Rattle.chyp_pattern.proofs.components.find_component.Given as goal

abbrev pub invariant-loop-next : goal.invariant-loop-next
invariant-loop-next l = IsComponentPart l.graph l.fn.k l.fn.sweep l.sweep l.next

abbrev pub decreases-loop-next : goal.decreases-loop-next
decreases-loop-next l = l.sweep.edges - l.next
