-- What a board takes of a graph, and what it knows of the ends of its wires.
use Rattle.std.specs.Prelude.{ℕ, ◌≡◌, ◌⊎◌, ◌<◌, ◌≤◌, ◌^◌, true, List, [], ◌++◌, length, map, Option, Some, None, slice_get, slice_index, vec_capacity}
use Rattle.std.specs.List.{zip}
use Rattle.chyp_term.proofs.Members.{Member}
use Rattle.chyp_term.specs.Positions.{is_apart}
use Rattle.chyp_graph.specs.PlainGraph.{PlainGraph, renamed, sources_of, targets_of}
use Rattle.chyp_store.specs.Items.{AreDistinct, ids, item_at}
use Rattle.chyp_store.specs.Lists.{HasRows}
use Rattle.chyp_match.specs.View.{IsIn, Net}
use Rattle.chyp_work.specs.Board.{IsConsumer, IsFiled, IsProducer, IsWork, edge_of, net, wires_of}
use Rattle.chyp_work.specs.Net.{plain}
use Rattle.chyp_work.specs.declared.board.Board.{Board}
use Rattle.chyp_work.specs.declared.board.EdgeItem.{EdgeItem}
use Rattle.chyp_work.specs.declared.board.WireItem.{WireItem}
use Rattle.chyp_work.specs.declared.end.End.{End}
use Rattle.chyp_work.specs.declared.end.End.TheVariants.{Outside, Port}
use Rattle.chyp_work.specs.declared.parts.Parts.{Parts}

-- the parts are those of the graph, with room for as many numbers
pub record AreParts (g : PlainGraph) (parts : Parts) : Type 0 where
  pub sorts : parts.sorts.items ≡ g.wires
  pub edges : map edge_of parts.edges.items ≡ g.edges
  pub wire_ids : parts.wire_ids.items ≡ []
  pub edge_ids : parts.edge_ids.items ≡ []
  pub wire_places : length g.wires ≤ vec_capacity parts.wire_ids
  pub edge_places : length g.edges ≤ vec_capacity parts.edge_ids

-- a board takes the wires and the edges of the graph without memory
pub record HasRoomFor (g : PlainGraph) (b : Board) : Type 0 where
  pub wires : length g.wires ≤ b.wires.room
  pub edges : length g.edges ≤ b.edges.room
  pub sorts : HasRows (λ sort. sort.name) g.wires (length g.wires) b.sorted
  pub names : HasRows (λ edge. edge.name) g.edges (length g.edges) b.named

-- n with the wires and the edges of the graph behind its own, under these numbers
abbrev pub with_graph : Net → PlainGraph → List ℕ → List ℕ → Net
with_graph n g ds vs = record n { edges = n.edges ++ zip ds (map (renamed (slice_index vs)) g.edges); wires = n.wires ++ zip vs g.wires }

-- the end at a place among the ports of an edge, or among the inputs or the outputs
abbrev pub end_of : Option ℕ → ℕ → End
end_of None i = Outside i
end_of (Some k) i = Port k i

-- what is noted of w on this side is what was, where w is none of the ports, and else the end at one of them
abbrev pub IsNoted : (WireItem → End) → (WireItem → End) → (ℕ → End) → List ℕ → ℕ → WireItem → WireItem → Type 0
IsNoted here there end ports w before after =
    ((after ≡ before) × (is_apart ports w ≡ true))
    ⊎ ((i : ℕ) × (slice_get ports i ≡ Some w) × (here after ≡ end i) × (there after ≡ there before))

-- the ends at the ports make them
abbrev pub IsMade : (ℕ → End) → List ℕ → ℕ → WireItem → WireItem → Type 0
IsMade end ports = IsNoted (λ item. item.producer) (λ item. item.consumer) end ports

-- the ends at the ports use them
abbrev pub IsUsed : (ℕ → End) → List ℕ → ℕ → WireItem → WireItem → Type 0
IsUsed end ports = IsNoted (λ item. item.consumer) (λ item. item.producer) end ports

-- the same wires, where each has what Is says
pub record AreNoted (Is : ℕ → WireItem → WireItem → Type 0) (before after : List (ℕ × WireItem)) : Type 0 where
  pub sorts : wires_of after ≡ wires_of before
  pub each : (w : ℕ) (item : WireItem) → item_at w after ≡ Some item → (was : WireItem) × (item_at w before ≡ Some was) × Is w was item

-- the places of its ports fit their type
abbrev pub HasFewPorts : EdgeItem → Type 0
HasFewPorts item = (length item.sources.items < 2 ^ 32) × (length item.targets.items < 2 ^ 32)

-- it is known what makes the wire w
abbrev pub KnowsMaker : Board → ℕ → Type 0
KnowsMaker b w = (item : WireItem) → item_at w b.wires.items ≡ Some item → IsProducer (net b) w item.producer

-- it is known what uses the wire w
abbrev pub KnowsUser : Board → ℕ → Type 0
KnowsUser b w = (item : WireItem) → item_at w b.wires.items ≡ Some item → IsConsumer (net b) w item.consumer

-- the same board, but for what is noted of ends, and what was known is known
pub record KeepsEnds (b c : Board) : Type 0 where
  pub rest : c ≡ record b { wires = c.wires }
  pub sorts : wires_of c.wires.items ≡ wires_of b.wires.items
  pub makers : (w : ℕ) → KnowsMaker b w → KnowsMaker c w
  pub users : (w : ℕ) → KnowsUser b w → KnowsUser c w

-- the board is always valid, and its plain graph is this one
pub record IsBoardOf (g : PlainGraph) (b : Board) : Type 0 where
  pub work : IsWork b
  pub graph : plain (net b) ≡ g

-- b is a with the wires and the edges of the graph, under these numbers, and with the ends at the ports of these edges
pub record IsPut (a b : Board) (g : PlainGraph) (ds vs : List ℕ) : Type 0 where
  pub graph : net b ≡ with_graph (net a) g ds vs
  pub wire_count : length vs ≡ length g.wires
  pub edge_count : length ds ≡ length g.edges
  pub ends : (b.inputs ≡ a.inputs) × (b.outputs ≡ a.outputs)
  pub wires_apart : AreDistinct (ids b.wires.items)
  pub edges_apart : AreDistinct (ids b.edges.items)
  pub old_makers : (w : ℕ) → IsIn w a.wires.items → KnowsMaker a w → KnowsMaker b w
  pub old_users : (w : ℕ) → IsIn w a.wires.items → KnowsUser a w → KnowsUser b w
  pub makers : (v : ℕ) → Member v (targets_of g.edges) → KnowsMaker b (slice_index vs v)
  pub users : (v : ℕ) → Member v (sources_of g.edges) → KnowsUser b (slice_index vs v)
  pub filed : IsFiled b
