-- The graph of a term (Bonchi, Gadducci, Kissinger, Sobociński and Zanasi, String Diagram Rewrite Theory II).
use Rattle.std.specs.Prelude.{[], ◌∷◌, ◌++◌, length}
use Rattle.chyp_term.specs.Perm.{count_from}
use Rattle.chyp_term.specs.Morphism.{Morphism, generator, permutation, then, beside}
use Rattle.chyp_graph.specs.PlainGraph.{PlainGraph}
use Rattle.chyp_graph.specs.Composition.{then_graph, beside_graph}

-- a generator is one edge, whose source wires come before its target wires; a permutation has wires alone, and its
-- output at j is the wire p[j]
abbrev pub graph_of : Morphism → PlainGraph
graph_of (generator n a b) =
    record {
      wires = a ++ b;
      edges = record { name = n; sources = count_from 0 (length a); targets = count_from (length a) (length b) } ∷ [];
      inputs = count_from 0 (length a);
      outputs = count_from (length a) (length b);
    }
graph_of (permutation a p) = record { wires = a; edges = []; inputs = count_from 0 (length a); outputs = p }
graph_of (then s t) = then_graph (graph_of s) (graph_of t)
graph_of (beside s t) = beside_graph (graph_of s) (graph_of t)
