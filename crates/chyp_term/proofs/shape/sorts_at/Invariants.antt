use Rattle.std.proofs.Common.{◌≡◌, take}
use Rattle.chyp_term.specs.Perm.{permuted}
use Rattle.chyp_term.proofs.shape.sorts_at.Given as goal

abbrev pub invariant-loop-place : goal.invariant-loop-place
invariant-loop-place l = l.taken.items ≡ permuted l.sorts (take l.place-index l.order)
