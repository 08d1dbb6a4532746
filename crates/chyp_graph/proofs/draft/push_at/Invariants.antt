use Rattle.std.proofs.Common.{◌≡◌, ◌++◌, take}
use Rattle.chyp_term.specs.Perm.{permuted}
use Rattle.chyp_graph.proofs.draft.push_at.Given as goal

abbrev pub invariant-loop-place : goal.invariant-loop-place
invariant-loop-place l = l.list.items ≡ l.initial.list.items ++ permuted l.live (take l.place-index l.places)
