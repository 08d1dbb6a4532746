-- How a graph by numbers is kept.
use Rattle.std.specs.Prelude.{ℕ, ◌≡◌, ◌<◌, ◌^◌, All, List, length, map, Some, IfSome, slice_get, slice_index, slice_set}
use Rattle.chyp_graph.specs.PlainGraph.{Edge, renamed}
use Rattle.chyp_base.specs.declared.sort.Sort.{Sort}
use Rattle.smallvec.specs.SmallVec.{with_item as with_port}
use Rattle.std.specs.Option.{option_map_or}
use Rattle.chyp_store.specs.Items.{item_at, with_item}
use Rattle.chyp_store.specs.Lists.{list_of}
use Rattle.chyp_work.specs.Net.{IsSound, with_source, with_target}
use Rattle.chyp_match.specs.View.{Net, named_in, sorted_in, source_in, target_in}
use Rattle.chyp_work.specs.declared.board.Board.{Board}
use Rattle.chyp_work.specs.declared.board.EdgeItem.{EdgeItem}
use Rattle.chyp_work.specs.declared.board.WireItem.{WireItem}
use Rattle.chyp_work.specs.declared.end.End.{End}
use Rattle.chyp_work.specs.declared.end.End.TheVariants.{Outside, Port}

abbrev pub edge_of : EdgeItem → Edge
edge_of item = record { name = item.name; sources = item.sources.items; targets = item.targets.items }

-- the ports of the edge are places in a list of this length
abbrev pub HasPortsBelow : ℕ → EdgeItem → Type 0
HasPortsBelow n item = All (λ w. w < n) item.sources.items × All (λ w. w < n) item.targets.items

-- the edge, whose ports are places in the list of wires, with these wires
abbrev pub renamed_by : List ℕ → EdgeItem → Edge
renamed_by ws item = renamed (slice_index ws) (edge_of item)

abbrev pub edges_of : List (ℕ × EdgeItem) → List (ℕ × Edge)
edges_of items = map (λ e. (e.0, edge_of e.1)) items

abbrev pub wires_of : List (ℕ × WireItem) → List (ℕ × Sort)
wires_of items = map (λ e. (e.0, e.1.sort)) items

-- a wire of this sort, whose ends are still to be noted
abbrev pub loose_wire : Sort → WireItem
loose_wire sort = record { sort = sort; producer = Outside 0; consumer = Outside 0 }

-- the graph that is kept
abbrev pub net : Board → Net
net b = record { edges = edges_of b.edges.items; wires = wires_of b.wires.items; inputs = b.inputs.items; outputs = b.outputs.items }

-- the lists by name and by sort are those of the graph
pub record IsFiled (b : Board) : Type 0 where
  pub named : (name : List ℕ) → list_of name b.named ≡ named_in (net b) name
  pub sorted : (name : List ℕ) → list_of name b.sorted ≡ sorted_in (net b) name

-- what makes the wire w
abbrev pub IsProducer : Net → ℕ → End → Type 0
IsProducer n w (Outside i) = slice_get n.inputs i ≡ Some w
IsProducer n w (Port k i) = target_in n k i ≡ Some w

-- what uses the wire w
abbrev pub IsConsumer : Net → ℕ → End → Type 0
IsConsumer n w (Outside i) = slice_get n.outputs i ≡ Some w
IsConsumer n w (Port k i) = source_in n k i ≡ Some w

-- each wire knows its ends
abbrev pub KnowEnds : Board → Type 0
KnowEnds b = (w : ℕ) (item : WireItem) → item_at w b.wires.items ≡ Some item
    → IsProducer (net b) w item.producer × IsConsumer (net b) w item.consumer

-- what is always true of a graph that is rewritten in place
pub record IsWork (b : Board) : Type 0 where
  pub sound : IsSound (net b)
  pub filed : IsFiled b
  pub ends : KnowEnds b
  pub few_edges : length b.edges.items < 2 ^ 31
  pub few_wires : length b.wires.items < 2 ^ 31

-- with w made at the end
abbrev pub with_producer : Net → End → ℕ → Net
with_producer n (Outside i) w = record n { inputs = slice_set n.inputs i w }
with_producer n (Port k i) w = with_target n k i w

-- with w used at the end
abbrev pub with_consumer : Net → End → ℕ → Net
with_consumer n (Outside i) w = record n { outputs = slice_set n.outputs i w }
with_consumer n (Port k i) w = with_source n k i w

-- the end is a place among the inputs, or a target of an edge that is there
abbrev pub MayProduce : Board → End → Type 0
MayProduce b (Outside i) = i < length b.inputs.items
MayProduce b (Port k i) = IfSome (item_at k b.edges.items) (λ e. i < length e.targets.items)

abbrev pub MayConsume : Board → End → Type 0
MayConsume b (Outside i) = i < length b.outputs.items
MayConsume b (Port k i) = IfSome (item_at k b.edges.items) (λ e. i < length e.sources.items)

-- the items with w as the i-th target of the edge k
abbrev pub targeted : ℕ → ℕ → ℕ → List (ℕ × EdgeItem) → List (ℕ × EdgeItem)
targeted k i w items = option_map_or (λ e. with_item k items (record e { targets = with_port e.targets i w })) (item_at k items) items

-- the items with w as the i-th source of the edge k
abbrev pub sourced : ℕ → ℕ → ℕ → List (ℕ × EdgeItem) → List (ℕ × EdgeItem)
sourced k i w items = option_map_or (λ e. with_item k items (record e { sources = with_port e.sources i w })) (item_at k items) items

-- the items with this end as what makes the wire w
abbrev pub produced : ℕ → End → List (ℕ × WireItem) → List (ℕ × WireItem)
produced w end items = option_map_or (λ item. with_item w items (record item { producer = end })) (item_at w items) items

-- the items with this end as what uses the wire w
abbrev pub consumed : ℕ → End → List (ℕ × WireItem) → List (ℕ × WireItem)
consumed w end items = option_map_or (λ item. with_item w items (record item { consumer = end })) (item_at w items) items
