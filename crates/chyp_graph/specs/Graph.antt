-- What a graph knows of its wires besides the plain graph: what makes each wire, and what uses it.
use Rattle.std.specs.Prelude.{ℕ, ◌≡◌, ◌<◌, ◌^◌, true, List, length, flat_map, Option, Some, None, slice_get}
use Rattle.std.specs.Option.{option_and_then}
use Rattle.chyp_term.specs.Positions.{is_apart}
use Rattle.chyp_graph.specs.PlainGraph.{Edge, PlainGraph}
use Rattle.chyp_graph.specs.Validity.{IsValid}
use Rattle.chyp_graph.specs.declared.edge_view.EdgeView.{EdgeView}

-- the edge that is lent
abbrev pub lent_edge : EdgeView → Edge
lent_edge e = record { name = e.name.now; sources = e.sources.now; targets = e.targets.now }

-- the i-th target of the edge k
abbrev pub target_at : PlainGraph → ℕ → ℕ → Option ℕ
target_at g k i = option_and_then (λ e. slice_get e.targets i) (slice_get g.edges k)

-- the i-th source of the edge k
abbrev pub source_at : PlainGraph → ℕ → ℕ → Option ℕ
source_at g k i = option_and_then (λ e. slice_get e.sources i) (slice_get g.edges k)

-- where the wire w is a port of one of the edges: the edge and the place, or nothing where it is a port of none
abbrev pub IsPort : (Edge → List ℕ) → List Edge → ℕ → Option (ℕ × ℕ) → Type 0
IsPort ports edges w None = is_apart (flat_map ports edges) w ≡ true
IsPort ports edges w (Some p) = option_and_then (λ e. slice_get (ports e) p.1) (slice_get edges p.0) ≡ Some w

-- a table says of each of n wires where it is a port
pub record IsTable (ports : Edge → List ℕ) (edges : List Edge) (n : ℕ) (table : List (Option (ℕ × ℕ))) : Type 0 where
  pub size : length table ≡ n
  pub entries : (w : ℕ) (entry : Option (ℕ × ℕ)) → slice_get table w ≡ Some entry → IsPort ports edges w entry

-- the plain graph of a graph is valid and not too large, and the graph has a table of its targets and one of its sources
pub record IsKept (g : PlainGraph) (producers consumers : List (Option (ℕ × ℕ))) : Type 0 where
  pub valid : IsValid g
  pub few_wires : length g.wires < 2 ^ 31
  pub few_edges : length g.edges < 2 ^ 31
  pub made : IsTable (λ e. e.targets) g.edges (length g.wires) producers
  pub used : IsTable (λ e. e.sources) g.edges (length g.wires) consumers
