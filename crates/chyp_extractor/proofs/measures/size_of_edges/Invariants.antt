use Rattle.std.proofs.Common.{◌≡◌, sum_by, take}
use Rattle.chyp_term.specs.Perm.{permuted}
use Rattle.chyp_extract.specs.Measuring.{of_edge}
use Rattle.chyp_extractor.specs.Measures.{capped}
use Rattle.chyp_extractor.proofs.measures.size_of_edges.Given as goal

abbrev pub invariant-loop-k : goal.invariant-loop-k
invariant-loop-k l = l.size ≡ capped (sum_by (λ e. (of_edge e).size) (permuted l.graph.edges (take l.k-index l.edges)))
