use Rattle.std.proofs.Common.{◌≡◌, map}
use Rattle.chyp_term.specs.Perm.{count_from}
use Rattle.chyp_layout.specs.Ends.{from_of, to_of}
use Rattle.chyp_layout.proofs.ends.all_ends.Given as goal

abbrev pub invariant-loop-w : goal.invariant-loop-w
invariant-loop-w l = l.ends.items ≡ map (λ w. record { from = from_of l.graph w; to = to_of l.graph w }) (count_from 0 l.w)
