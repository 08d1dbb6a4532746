-- Which edges of a graph lead to which, as far as it was asked for.
use Rattle.std.specs.Prelude.{ℕ, ◌<◌, ◌≤◌, ◌≡◌, Bool, List, [], All, length, Some, slice_get, Contains, ◌⊎◌, ◌↔◌}
use Rattle.std.specs.List.{count_by}
use Rattle.std.specs.Vec.{vec_capacity}
use Rattle.chyp_graph.specs.PlainGraph.{Edge, PlainGraph}
use Rattle.chyp_match.specs.Row.{IsMarked, Marks}
use Rattle.chyp_match.specs.declared.reach.Reach.{Reach}

-- a chain of edges, each of which takes a target of the one before it, leads from the edge j to the edge k
pub data LeadsTo (g : PlainGraph) (j : ℕ) : ℕ → Type 0 where
  here : LeadsTo g j j
  on : {k m : ℕ} {d e : Edge} → LeadsTo g j k → slice_get g.edges k ≡ Some d → slice_get g.edges m ≡ Some e → {w : ℕ}
      → Contains d.targets w
      → Contains e.sources w → LeadsTo g j m

-- the marked edges are those that lead to the edge k
pub record IsRow (g : PlainGraph) (k : ℕ) (row : List Bool) : Type 0 where
  pub size : length row ≡ length g.edges
  pub marks : (j : ℕ) → j < length g.edges → IsMarked row j ↔ LeadsTo g j k

-- a row that has room for all edges, and where it has marks, they are those of the edges that lead to the edge k
pub record IsRowOrNone (g : PlainGraph) (k : ℕ) (row : Marks) : Type 0 where
  pub room : row.room ≡ length g.edges
  pub known : 0 < length row.marks → IsRow g k row.marks

-- such a row for each edge
pub record AreRows (g : PlainGraph) (rows : List Marks) : Type 0 where
  pub size : length rows ≡ length g.edges
  pub each : (k : ℕ) (row : Marks) → slice_get rows k ≡ Some row → IsRowOrNone g k row

-- such rows, and room to find one more
pub record IsReach (g : PlainGraph) (r : Reach) : Type 0 where
  pub rows : AreRows g r.rows.items
  pub spare : r.spare ≡ record { marks = []; room = length g.edges }
  pub queue : length g.edges ≤ vec_capacity r.queue

-- how many are marked
abbrev pub marked : List Bool → ℕ
marked marks = count_by (λ (mark : Bool). mark) marks

-- a row is being found: its marks are in the spare row, and the queue has some of the marked edges, each once
pub record IsUnderWay (g : PlainGraph) (r : Reach) : Type 0 where
  pub rows : AreRows g r.rows.items
  pub room : r.spare.room ≡ length g.edges
  pub size : length r.spare.marks ≡ length g.edges
  pub queue : length g.edges ≤ vec_capacity r.queue
  pub few : length r.queue.items ≤ marked r.spare.marks
  pub within : All (λ k. k < length g.edges) r.queue.items

-- the edges that make a source of the edge k are marked
abbrev pub AreMakersMarked : PlainGraph → List Bool → ℕ → Type 0
AreMakersMarked g marks k = (p : ℕ) (d e : Edge) (w : ℕ) → slice_get g.edges p ≡ Some d → slice_get g.edges k ≡ Some e
    → Contains d.targets w
    → Contains e.sources w → IsMarked marks p

-- all marked edges lead to the edge k, which is one of them, and what makes their sources is marked, but for those that
-- stand in the queue from a place on
pub record IsWalk (g : PlainGraph) (k next : ℕ) (marks : List Bool) (queue : List ℕ) : Type 0 where
  pub begun : IsMarked marks k
  pub leads : (j : ℕ) → IsMarked marks j → LeadsTo g j k
  pub queued : (i j : ℕ) → slice_get queue i ≡ Some j → IsMarked marks j
  pub closed : (j : ℕ) → IsMarked marks j → ((i : ℕ) × (next ≤ i) × (slice_get queue i ≡ Some j)) ⊎ AreMakersMarked g marks j

-- an edge that makes the wire leads to the edge k
abbrev pub MakersLead : PlainGraph → ℕ → ℕ → Type 0
MakersLead g w k = (p : ℕ) (d : Edge) → slice_get g.edges p ≡ Some d → Contains d.targets w → LeadsTo g p k

-- an edge that makes the wire is marked
abbrev pub IsMakerMarked : PlainGraph → ℕ → List Bool → Type 0
IsMakerMarked g w marks = (p : ℕ) (d : Edge) → slice_get g.edges p ≡ Some d → Contains d.targets w → IsMarked marks p

-- nothing that is marked or in the queue goes
pub record IsMore (s t : Reach) : Type 0 where
  pub rows : t.rows.items ≡ s.rows.items
  pub marks : (j : ℕ) → IsMarked s.spare.marks j → IsMarked t.spare.marks j
  pub queue : (i j : ℕ) → slice_get s.queue.items i ≡ Some j → slice_get t.queue.items i ≡ Some j
