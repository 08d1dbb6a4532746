-- The graph that is read from a picture.
use Rattle.std.specs.Prelude.{ℕ, ◌&&◌, ◌==◌, Bool, false, List, map, filter, flat_map, length}
use Rattle.std.specs.List.{enumerate_from, range_with_len}
use Rattle.chyp_graph.specs.PlainGraph.{Edge, PlainGraph}
use Rattle.chyp_picture.specs.declared.box_at.BoxAt.{BoxAt}
use Rattle.chyp_picture.specs.declared.end.End.{End}
use Rattle.chyp_picture.specs.declared.end.End.TheVariants.{Input, Output, Port}
use Rattle.chyp_picture.specs.declared.line.Line.{Line}
use Rattle.chyp_picture.specs.declared.picture.Picture.{Picture}

-- the ends are the same
abbrev pub is_end : End → End → Bool
is_end (Input i) (Input j) = i == j
is_end (Input i) (Output j) = false
is_end (Input i) (Port l j) = false
is_end (Output i) (Input j) = false
is_end (Output i) (Output j) = i == j
is_end (Output i) (Port l j) = false
is_end (Port k i) (Input j) = false
is_end (Port k i) (Output j) = false
is_end (Port k i) (Port l j) = k == l && i == j

-- the numbers of the lines that have this end
abbrev pub lines_at : (Line → End) → List Line → End → List ℕ
lines_at side lines e = map (λ q. q.0) (filter (λ q. is_end e (side q.1)) (enumerate_from 0 lines))

-- the lines at the ports of the box k, from the first port on; a box has at most as many ports on a side as there are lines
abbrev pub lines_at_ports : (Line → End) → List Line → ℕ → List ℕ
lines_at_ports side lines k = flat_map (λ i. lines_at side lines (Port k i)) (range_with_len 0 (length lines))

-- the lines at the first n inputs, or outputs
abbrev pub lines_at_rim : (Line → End) → List Line → (ℕ → End) → ℕ → List ℕ
lines_at_rim side lines rim n = flat_map (λ i. lines_at side lines (rim i)) (range_with_len 0 n)

-- the edge of the box k: lines end at its sources and begin at its targets
abbrev pub edge_read : List Line → ℕ → BoxAt → Edge
edge_read lines k b = record {
  name = b.name;
  sources = lines_at_ports (λ l. l.to) lines k;
  targets = lines_at_ports (λ l. l.from) lines k;
}

-- the graph whose edges are the boxes and whose wires are the lines, with their ends
abbrev pub read : Picture → PlainGraph
read p = record {
  wires = map (λ l. l.sort) p.lines;
  edges = map (λ q. edge_read p.lines q.0 q.1) (enumerate_from 0 p.boxes);
  inputs = lines_at_rim (λ l. l.from) p.lines Input p.inputs;
  outputs = lines_at_rim (λ l. l.to) p.lines Output p.outputs;
}
