use Rattle.std.proofs.Common.{◌≡◌, take}
use Rattle.chyp_term.specs.Perm.{permuted}
use Rattle.chyp_graph.specs.PlainGraph.{sources_of}
use Rattle.chyp_extractor.proofs.layer.sources_of.Given as goal

abbrev pub invariant-loop-k : goal.invariant-loop-k
invariant-loop-k l = l.wires.items ≡ sources_of (permuted l.graph.edges (take l.k-index l.edges))
