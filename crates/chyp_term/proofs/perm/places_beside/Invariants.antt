use Rattle.std.proofs.Common.{◌≡◌, ◌++◌, length, take}
use Rattle.chyp_term.specs.Perm.{shifted}
use Rattle.chyp_term.proofs.perm.places_beside.Given as goal

abbrev pub invariant-loop-place : goal.invariant-loop-place
invariant-loop-place l = l.both.items ≡ l.places ++ shifted (length l.places) (take l.place-index l.others)
