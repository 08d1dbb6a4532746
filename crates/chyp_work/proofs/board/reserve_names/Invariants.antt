use Rattle.std.proofs.Common.{ℕ, ◌≡◌, List, length}
use Rattle.chyp_graph.specs.PlainGraph.{Edge}
use Rattle.chyp_store.specs.Lists.{HasRowsTo, list_of}
use Rattle.chyp_work.proofs.board.reserve_names.Given as goal

abbrev pub invariant-loop-k : goal.invariant-loop-k
invariant-loop-k l = record { kept : (n : List ℕ) → list_of n l.lists ≡ list_of n l.initial.lists; rows : HasRowsTo l.k (λ (edge : Edge). edge.name) l.graph.edges (length l.graph.edges) l.lists }
