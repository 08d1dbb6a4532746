use Rattle.chyp_graph.specs.Removal.{IsSourceless}
use Rattle.chyp_graph.proofs.removal.without_sources.Given as goal

abbrev pub invariant-loop-k : goal.invariant-loop-k
invariant-loop-k l = IsSourceless l.graph l.k l.order.items
