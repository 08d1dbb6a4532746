use Rattle.chyp_load.proofs.Reading.{IsUnderway, left}
use Rattle.chyp_load.proofs.loading.load.Given as goal

abbrev pub invariant-loop-next : goal.invariant-loop-next
invariant-loop-next g l = IsUnderway (g.L.Library.texts l.fn.library) (g.L.Library.texts l.library) (g.L.Library.faults l.fn.library) (g.L.Library.faults l.library)
    l.fn.main.text l.modules l.wanted.items l.next

abbrev pub decreases-loop-next : goal.decreases-loop-next
decreases-loop-next g l = left l.modules l.wanted.items l.next
