-- Edges that are found one by one.
use Rattle.std.specs.Prelude.{ℕ, ◌≡◌, ◌≤◌, length, Bool, true, List, ◌++◌, Option, None, Some, slice_get, Contains, ◌⊎◌}
use Rattle.chyp_pattern.specs.Component.{AreJoined, IsPortOf}
use Rattle.chyp_graph.specs.PlainGraph.{PlainGraph}

-- the edges found so far, of as many edges as are said
pub record Found : Type 0 where
  pub edges : ℕ
  pub found : List ℕ

-- exactly the edges found are marked, each of them is found once, and there is room for all
pub record IsKept (visited : List Bool) (found : List ℕ) (room : ℕ) : Type 0 where
  pub found_if_marked : (k : ℕ) → slice_get visited k ≡ Some true → Contains found k
  pub marked_if_found : (k : ℕ) → Contains found k → slice_get visited k ≡ Some true
  pub once : (i j k : ℕ) → slice_get found i ≡ Some k → slice_get found j ≡ Some k → i ≡ j
  pub enough : length visited ≤ room

-- from one to the other, edges are found
pub record Grows (s t : Found) : Type 0 where
  pub edges : t.edges ≡ s.edges
  pub more : (new : List ℕ) × (t.found ≡ s.found ++ new)

-- the edge is found, and no other one
pub record IsFound (k : ℕ) (s t : Found) : Type 0 where
  pub grows : Grows s t
  pub found : Contains t.found k
  pub only : (j : ℕ) → Contains t.found j → (Contains s.found j) ⊎ (j ≡ k)

-- the edge of the port is found, and no other one; nothing changes where there is no port
abbrev pub IsEdgeFound : Option (ℕ × ℕ) → Found → Found → Type 0
IsEdgeFound None s t = t ≡ s
IsEdgeFound (Some port) s t = IsFound port.0 s t

-- the edges that have one of these wires are found, and no others
pub record AreFoundAt (g : PlainGraph) (wires : List ℕ) (s t : Found) : Type 0 where
  pub grows : Grows s t
  pub found : (w k : ℕ) → Contains wires w → IsPortOf g k w → Contains t.found k
  pub only : (k : ℕ) → Contains t.found k → (Contains s.found k) ⊎ ((w : ℕ) × Contains wires w × IsPortOf g k w)

-- the edges that share a wire with the edge k are found, and no others
pub record AreNeighboursFound (g : PlainGraph) (k : ℕ) (s t : Found) : Type 0 where
  pub grows : Grows s t
  pub found : (w l : ℕ) → IsPortOf g k w → IsPortOf g l w → Contains t.found l
  pub only : (l : ℕ) → Contains t.found l → (Contains s.found l) ⊎ ((w : ℕ) × IsPortOf g k w × IsPortOf g l w)

-- with each edge found those that are joined with it are found
abbrev pub IsClosed : PlainGraph → List ℕ → Type 0
IsClosed g found = (j k : ℕ) → Contains found j → AreJoined g j k → Contains found k

-- the edges that are joined with the edge k are found, and no others
pub record IsComponentFound (g : PlainGraph) (k : ℕ) (s t : Found) : Type 0 where
  pub grows : Grows s t
  pub found : (j : ℕ) → AreJoined g k j → Contains t.found j
  pub only : (j : ℕ) → Contains t.found j → (Contains s.found j) ⊎ AreJoined g k j
