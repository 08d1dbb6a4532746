-- Where the wires of a graph begin and end.
use Rattle.std.specs.Prelude.{ℕ, suc, ◌≡◌, ◌<◌, List, [], ◌∷◌, map, length, Option, Some, None, option_map, unwrap_or, slice_index}
use Rattle.chyp_term.specs.Perm.{count_from}
use Rattle.chyp_term.specs.Positions.{place_of}
use Rattle.chyp_graph.specs.PlainGraph.{Edge, PlainGraph}
use Rattle.chyp_picture.specs.declared.end.End.{End}
use Rattle.chyp_picture.specs.declared.end.End.TheVariants.{Input, Output, Port}
use Rattle.chyp_layout.specs.declared.ends.Ends.{Ends}

-- a port of the first edge at this place, or else the given port of the edges behind it
abbrev pub port_or : Option ℕ → Option (ℕ × ℕ) → Option (ℕ × ℕ)
port_or (Some i) p = Some (0, i)
port_or None p = option_map (λ q. (suc q.0, q.1)) p

-- where the wire is a port of one of the edges: the number of the first such edge and the wire's place among its ports
abbrev pub port_of : (Edge → List ℕ) → List Edge → ℕ → Option (ℕ × ℕ)
port_of ports [] w = None
port_of ports (e ∷ es) w = port_or (place_of w (ports e)) (port_of ports es w)

-- an end at a port of an edge, or else at an input or an output, which `rim` names by its number
abbrev pub end_at : (ℕ → End) → Option (ℕ × ℕ) → Option ℕ → End
end_at rim (Some p) i = Port p.0 p.1
end_at rim None i = rim (unwrap_or i 0)

-- a wire begins at the edge that it is a target of, or else at an input
abbrev pub from_of : PlainGraph → ℕ → End
from_of g w = end_at Input (port_of (λ e. e.targets) g.edges w) (place_of w g.inputs)

-- a wire ends at the edge that it is a source of, or else at an output
abbrev pub to_of : PlainGraph → ℕ → End
to_of g w = end_at Output (port_of (λ e. e.sources) g.edges w) (place_of w g.outputs)

-- the two ends of each wire, in wire order
abbrev pub ends_of : PlainGraph → List Ends
ends_of g = map (λ w. record { from = from_of g w; to = to_of g w }) (count_from 0 (length g.wires))

-- the end is an input, an output or a port of one of n edges
abbrev pub IsEnd : ℕ → End → Type 0
IsEnd n (Input i) = Unit {0}
IsEnd n (Output i) = Unit {0}
IsEnd n (Port k i) = k < n

-- no two of the numbers are equal
abbrev pub AreApart : List ℕ → Type 0
AreApart ns = (i j : ℕ) → i < length ns → j < length ns → slice_index ns i ≡ slice_index ns j → i ≡ j

-- the table has the place of each of the numbers
abbrev pub ArePlaces : List ℕ → List ℕ → Type 0
ArePlaces ns table = (j : ℕ) → j < length ns → slice_index table (slice_index ns j) ≡ j
