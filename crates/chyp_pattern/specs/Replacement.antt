-- What becomes of a graph where an occurrence in it is replaced by another graph of the same type.
use Rattle.std.specs.Prelude.{ℕ, ◌+◌, ◌≡◌, List, ◌++◌, length, map, filter, Option, Some, None, slice_index}
use Rattle.chyp_term.specs.Perm.{permuted, count_from}
use Rattle.chyp_term.specs.Positions.{place_of, is_apart}
use Rattle.chyp_graph.specs.PlainGraph.{Edge, PlainGraph, input_sorts, output_sorts, renamed}
use Rattle.chyp_graph.specs.Validity.{IsValid}

-- the wires of g that are no image, in order
abbrev pub kept_wires : PlainGraph → List ℕ → List ℕ
kept_wires g ws = filter (is_apart ws) (count_from 0 (length g.wires))

-- an end behind n kept wires at a place, or else the number given
abbrev pub bound_at : ℕ → List ℕ → ℕ → Option ℕ → ℕ
bound_at n ends kept None = kept
bound_at n ends kept (Some i) = n + slice_index ends i

-- the wire w of g, anew: the image of the i-th wire of `inner` becomes the i-th of `ends` behind the kept wires, and a
-- kept wire the number of those before it
abbrev pub rebound : PlainGraph → List ℕ → List ℕ → List ℕ → ℕ → ℕ
rebound g ws inner ends w =
    bound_at (length (kept_wires g ws)) ends (length (filter (is_apart ws) (count_from 0 w))) (place_of w (map (slice_index ws) inner))

-- the edges of g that are no image, in order
abbrev pub kept_edges : PlainGraph → List ℕ → List ℕ
kept_edges g es = filter (is_apart es) (count_from 0 (length g.edges))

-- a kept edge, anew: what used the image of an output of l uses the output of r at its place, and what made the image of
-- an input of l makes the input of r at its place
abbrev pub rebound_edge : PlainGraph → PlainGraph → PlainGraph → List ℕ → Edge → Edge
rebound_edge g l r ws e =
    record {
      name = e.name;
      sources = map (rebound g ws l.outputs r.outputs) e.sources;
      targets = map (rebound g ws l.inputs r.inputs) e.targets;
    }

-- g with the occurrence of l at es and ws replaced by r: the image goes, the rest keeps its order, and the wires and edges
-- of r come behind it; the inputs of g make wires and its outputs use them, as edges do
abbrev pub replaced : PlainGraph → PlainGraph → PlainGraph → List ℕ → List ℕ → PlainGraph
replaced g l r es ws =
    record {
      wires = permuted g.wires (kept_wires g ws) ++ r.wires;
      edges = map (rebound_edge g l r ws) (permuted g.edges (kept_edges g es)) ++ map (renamed (λ v. length (kept_wires g ws) + v)) r.edges;
      inputs = map (rebound g ws l.inputs r.inputs) g.inputs;
      outputs = map (rebound g ws l.outputs r.outputs) g.outputs;
    }

-- l and r are valid and have one type
pub record IsGraphRule (l r : PlainGraph) : Type 0 where
  pub left : IsValid l
  pub right : IsValid r
  pub inputs : input_sorts l ≡ input_sorts r
  pub outputs : output_sorts l ≡ output_sorts r
