-- Graphs by numbers: each edge and each wire has a number, which it keeps while others come and go.
use Rattle.std.specs.Prelude.{ℕ, ◌<◌, ◌≡◌, true, All, eqb, List, [], ◌∷◌, map, length, slice_get, slice_index, Option, IsSome}
use Rattle.std.specs.List.{zip}
use Rattle.std.specs.Map.{lookup}
use Rattle.std.specs.Option.{option_and_then}
use Rattle.std.specs.Str.{bytes_eq}
use Rattle.chyp_base.specs.declared.sort.Sort.{Sort}
use Rattle.chyp_term.specs.Perm.{count_from}
use Rattle.chyp_term.specs.Positions.{is_apart}
use Rattle.chyp_graph.specs.PlainGraph.{Edge, PlainGraph, renamed}
use Rattle.chyp_graph.specs.Validity.{IsValid}
use Rattle.chyp_match.specs.Listed.{ids_where, numbered_from}

-- the edges and the wires in order, each with its number; ports and interfaces name wires by their numbers
pub record Net : Type 0 where
  pub edges : List (ℕ × Edge)
  pub wires : List (ℕ × Sort)
  pub inputs : List ℕ
  pub outputs : List ℕ

-- a plain graph, and the number of each edge and of each wire, in order
pub record Seen : Type 0 where
  pub graph : PlainGraph
  pub edge_ids : List ℕ
  pub wire_ids : List ℕ

-- no number stands twice in the list
abbrev pub AreDistinct : List ℕ → Type 0
AreDistinct [] = Unit {0}
AreDistinct (k ∷ ks) = (is_apart ks k ≡ true) × AreDistinct ks

-- the graph is valid, and each of its edges and wires has a number of its own
pub record IsSeen (s : Seen) : Type 0 where
  pub valid : IsValid s.graph
  pub edges : length s.edge_ids ≡ length s.graph.edges
  pub wires : length s.wire_ids ≡ length s.graph.wires
  pub edges_apart : AreDistinct s.edge_ids
  pub wires_apart : AreDistinct s.wire_ids

-- the same by numbers
abbrev pub net_of : Seen → Net
net_of s =
    record {
      edges = zip s.edge_ids (map (renamed (slice_index s.wire_ids)) s.graph.edges);
      wires = zip s.wire_ids s.graph.wires;
      inputs = map (slice_index s.wire_ids) s.graph.inputs;
      outputs = map (slice_index s.wire_ids) s.graph.outputs;
    }

-- a graph in which each edge and each wire has its place as its number
abbrev pub by_places : PlainGraph → Seen
by_places g = record { graph = g; edge_ids = count_from 0 (length g.edges); wire_ids = count_from 0 (length g.wires) }

-- the item under a number
abbrev pub item_at : {T : Type 0} → ℕ → List (ℕ × T) → Option T
item_at k items = lookup (eqb k) items

-- there is an item under the number
abbrev pub IsIn : {T : Type 0} → ℕ → List (ℕ × T) → Type 0
IsIn k items = IsSome (item_at k items)

-- the i-th target of the edge k
abbrev pub target_in : Net → ℕ → ℕ → Option ℕ
target_in n k i = option_and_then (λ e. slice_get e.targets i) (item_at k n.edges)

-- the i-th source of the edge k
abbrev pub source_in : Net → ℕ → ℕ → Option ℕ
source_in n k i = option_and_then (λ e. slice_get e.sources i) (item_at k n.edges)

-- the edges of this name, in order
abbrev pub named_in : Net → List ℕ → List ℕ
named_in n name = ids_where (λ e. bytes_eq name e.name) n.edges

-- the wires of the sort of this name, in order
abbrev pub sorted_in : Net → List ℕ → List ℕ
sorted_in n name = ids_where (λ sort. bytes_eq name sort.name) n.wires

-- the item under each number is the one at that place, and no number is past the end
pub record AreNumbered {T : Type 0} (items : List T) : Type 0 where
  pub each : (k : ℕ) → item_at k (numbered_from 0 items) ≡ slice_get items k
  pub bound : All (λ e. e.0 < length items) (numbered_from 0 items)

-- a graph by numbers, in which each edge and each wire has its place as its number
abbrev pub net_by_places : PlainGraph → Net
net_by_places g = record { edges = numbered_from 0 g.edges; wires = numbered_from 0 g.wires; inputs = g.inputs; outputs = g.outputs }
