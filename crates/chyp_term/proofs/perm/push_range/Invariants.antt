use Rattle.std.proofs.Common.{◌-◌, ◌≡◌, ◌++◌}
use Rattle.chyp_term.specs.Perm.{count_from}
use Rattle.chyp_term.proofs.perm.push_range.Given as goal

abbrev pub invariant-loop-place : goal.invariant-loop-place
invariant-loop-place l = l.places.items ≡ l.initial.places.items ++ count_from l.start (l.place - l.start)
