-- Plain graphs one after the other and side by side.
use Rattle.std.specs.Prelude.{ℕ, ◌+◌, List, ◌++◌, length, map, filter, Option, Some, None, slice_index}
use Rattle.chyp_term.specs.Perm.{permuted, count_from, shifted}
use Rattle.chyp_term.specs.Positions.{place_of, is_apart}
use Rattle.chyp_graph.specs.PlainGraph.{PlainGraph, renamed}

-- the numbers below n that are none of ks
abbrev pub inner : List ℕ → ℕ → List ℕ
inner ks n = filter (is_apart ks) (count_from 0 n)

-- the wires of h that are no input, in order
abbrev pub inner_wires : PlainGraph → List ℕ
inner_wires h = inner h.inputs (length h.wires)

-- the output at a place, or else the number given
abbrev pub joined_at : List ℕ → ℕ → Option ℕ → ℕ
joined_at outs inside None = inside
joined_at outs inside (Some j) = slice_index outs j

-- the wire w of h in g ; h: an input is the output of g at its place, and the others follow the wires of g in order
abbrev pub joined : PlainGraph → PlainGraph → ℕ → ℕ
joined g h w = joined_at g.outputs (length g.wires + length (inner h.inputs w)) (place_of w h.inputs)

-- g ; h: the wires of g and then those of h that are no input, and the edges of g and then those of h
abbrev pub then_graph : PlainGraph → PlainGraph → PlainGraph
then_graph g h =
    record {
      wires = g.wires ++ permuted h.wires (inner_wires h);
      edges = g.edges ++ map (renamed (joined g h)) h.edges;
      inputs = g.inputs;
      outputs = map (joined g h) h.outputs;
    }

-- g * h: the wires, edges, inputs and outputs of g and then those of h
abbrev pub beside_graph : PlainGraph → PlainGraph → PlainGraph
beside_graph g h =
    record {
      wires = g.wires ++ h.wires;
      edges = g.edges ++ map (renamed (λ w. length g.wires + w)) h.edges;
      inputs = g.inputs ++ shifted (length g.wires) h.inputs;
      outputs = g.outputs ++ shifted (length g.wires) h.outputs;
    }
