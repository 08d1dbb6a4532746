use Rattle.std.proofs.Common.{◌≡◌, map}
use Rattle.chyp_term.specs.Perm.{permuted}
use Rattle.chyp_graph.specs.Composition.{inner}
use Rattle.chyp_replace.specs.Renumbered.{renumbered_by}
use Rattle.chyp_replace.proofs.renumbered.kept_edges.Given as goal

abbrev pub invariant-loop-k : goal.invariant-loop-k
invariant-loop-k l = l.edges.items ≡ map (renumbered_by l.numbers) (permuted l.graph.edges (inner l.images l.k))
