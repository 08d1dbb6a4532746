use Rattle.std.proofs.Common.{◌≡◌, take}
use Rattle.chyp_term.specs.Perm.{permuted}
use Rattle.chyp_term.proofs.perm.places_at.Given as goal

abbrev pub invariant-loop-place : goal.invariant-loop-place
invariant-loop-place l = l.taken.items ≡ permuted l.places (take l.place-index l.order)
