use Rattle.std.proofs.Common.{ℕ, ◌≡◌, List, length}
use Rattle.chyp_base.specs.declared.sort.Sort.{Sort}
use Rattle.chyp_store.specs.Lists.{HasRowsTo, list_of}
use Rattle.chyp_work.proofs.board.reserve_sorts.Given as goal

abbrev pub invariant-loop-v : goal.invariant-loop-v
invariant-loop-v l = record { kept : (n : List ℕ) → list_of n l.lists ≡ list_of n l.initial.lists; rows : HasRowsTo l.v (λ (sort : Sort). sort.name) l.graph.wires (length l.graph.wires) l.lists }
