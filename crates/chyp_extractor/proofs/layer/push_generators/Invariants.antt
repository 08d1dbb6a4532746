use Rattle.std.proofs.Common.{◌≡◌, ◌++◌, map, take}
use Rattle.chyp_term.specs.Perm.{permuted}
use Rattle.chyp_term.specs.Term.{morphisms_of}
use Rattle.chyp_extract.specs.Extraction.{generator_of}
use Rattle.chyp_extractor.proofs.layer.push_generators.Given as goal

abbrev pub invariant-loop-k : goal.invariant-loop-k
invariant-loop-k l = morphisms_of l.row.items ≡ morphisms_of l.initial.row.items ++ map (generator_of l.graph) (permuted l.graph.edges (take l.k-index l.edges))
