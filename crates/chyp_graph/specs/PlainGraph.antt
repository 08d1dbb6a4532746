-- Plain graphs: finite hypergraphs with sorts on their wires and with two interfaces, which are cospans of hypergraphs
-- over numbers (Bonchi, Gadducci, Kissinger, Sobociński and Zanasi, String Diagram Rewrite Theory II).
use Rattle.std.specs.Prelude.{ℕ, List, map, flat_map}
use Rattle.chyp_base.specs.declared.sort.Sort.{Sort}
use Rattle.chyp_term.specs.Perm.{permuted}
use Rattle.chyp_graph.specs.declared.edge_part.EdgePart.{EdgePart}

-- an edge has a generator's name, and its source and target wires by their numbers
abbrev pub Edge : Type 0
Edge = EdgePart

-- wires with their sorts, edges, and the input and output wires by their numbers
pub record PlainGraph : Type 0 where
  pub wires : List Sort
  pub edges : List Edge
  pub inputs : List ℕ
  pub outputs : List ℕ

-- the edge with its wires renamed
abbrev pub renamed : (ℕ → ℕ) → Edge → Edge
renamed f e = record { name = e.name; sources = map f e.sources; targets = map f e.targets }

-- the sources of all these edges
abbrev pub sources_of : List Edge → List ℕ
sources_of es = flat_map (λ e. e.sources) es

-- the targets of all these edges
abbrev pub targets_of : List Edge → List ℕ
targets_of es = flat_map (λ e. e.targets) es

-- the type of an edge, read off its ports: the sorts of its sources and those of its targets, in order
abbrev pub source_sorts : PlainGraph → Edge → List Sort
source_sorts g e = permuted g.wires e.sources

abbrev pub target_sorts : PlainGraph → Edge → List Sort
target_sorts g e = permuted g.wires e.targets

-- the sorts of the inputs, in order
abbrev pub input_sorts : PlainGraph → List Sort
input_sorts g = permuted g.wires g.inputs

-- the sorts of the outputs, in order
abbrev pub output_sorts : PlainGraph → List Sort
output_sorts g = permuted g.wires g.outputs
