-- Taking edges away one by one.
use Rattle.std.specs.Prelude.{ℕ, ◌^◌, ◌<◌, ◌≡◌, Bool, true, false, List, ◌++◌, length, take, Some, None, slice_get, All, Contains}
use Rattle.chyp_term.specs.Perm.{permuted}
use Rattle.chyp_term.specs.Positions.{is_among}
use Rattle.chyp_graph.specs.declared.removal.Removal.{Removal}
use Rattle.chyp_graph.specs.Graph.{source_at}
use Rattle.chyp_graph.specs.PlainGraph.{Edge, PlainGraph, targets_of}
use Rattle.chyp_graph.specs.Validity.{is_ready, taken_within}

-- the wires that are live once the edges of these numbers are taken away
abbrev pub live_behind : PlainGraph → List ℕ → List ℕ
live_behind g order = g.inputs ++ targets_of (permuted g.edges order)

-- each edge in the order comes after those that make its sources
abbrev pub IsInOrder : PlainGraph → List ℕ → Type 0
IsInOrder g order = (j k : ℕ) (e : Edge) → slice_get order j ≡ Some k → slice_get g.edges k ≡ Some e
    → is_ready (live_behind g (take j order)) e ≡ true

-- a topological order of the edges: all of them can be taken away in it
pub record IsTopologicalOrder (g : PlainGraph) (order : List ℕ) : Type 0 where
  pub within : All (λ k. k < length g.edges) order
  pub all : (k : ℕ) → k < length g.edges → Contains order k
  pub in_order : IsInOrder g order

-- of some live wires, the place at which each edge waits for a source to be live, and the edges that wait no more
pub record IsWaiting (g : PlainGraph) (live : List Bool) (waits : List ℕ) (order : List ℕ) : Type 0 where
  pub wires : length live ≡ length g.wires
  pub edges : length waits ≡ length g.edges
  -- the sources before the place are live, and the one there is not
  pub passed : (k n i w : ℕ) → slice_get waits k ≡ Some n → i < n → source_at g k i ≡ Some w → slice_get live w ≡ Some true
  pub stuck : (k n w : ℕ) → slice_get waits k ≡ Some n → source_at g k n ≡ Some w → slice_get live w ≡ Some false
  -- the edges without such a place are in the order, once
  pub all : (k n : ℕ) → slice_get waits k ≡ Some n → source_at g k n ≡ None → Contains order k
  pub only : (k n : ℕ) → slice_get waits k ≡ Some n → Contains order k → source_at g k n ≡ None
  pub within : All (λ k. k < length g.edges) order
  pub once : (i j k : ℕ) → slice_get order i ≡ Some k → slice_get order j ≡ Some k → i ≡ j
  pub in_order : IsInOrder g order
  -- the live wires are inputs, or targets of these edges
  pub made : (w : ℕ) → slice_get live w ≡ Some true → is_among (live_behind g order) w ≡ true

-- the same of a removal
abbrev pub IsRemoval : PlainGraph → Removal → Type 0
IsRemoval g r = IsWaiting g r.live.items r.waits.items r.order.items

-- the wires of the list are live
abbrev pub AreLive : List Bool → List ℕ → Type 0
AreLive live wires = (i w : ℕ) → slice_get wires i ≡ Some w → slice_get live w ≡ Some true

-- items are added behind a list
abbrev pub Grows : List ℕ → List ℕ → Type 0
Grows before after = (more : List ℕ) × (after ≡ before ++ more)

-- what is live stays live
abbrev pub StayLive : List Bool → List Bool → Type 0
StayLive before after = (w : ℕ) → slice_get before w ≡ Some true → slice_get after w ≡ Some true

-- the wire w is live after n rounds, and not after fewer
pub record IsLiveFrom (g : PlainGraph) (w n : ℕ) : Type 0 where
  pub by_then : is_among (g.inputs ++ targets_of (taken_within g n)) w ≡ true
  pub not_before : (m : ℕ) → m < n → is_among (g.inputs ++ targets_of (taken_within g m)) w ≡ false

-- the level of each of the wires: the number of rounds from which on it is live
pub record AreLevels (g : PlainGraph) (wires levels : List ℕ) : Type 0 where
  pub size : length levels ≡ length g.wires
  pub few : All (λ n. n < 2 ^ 31) levels
  pub each : (w n : ℕ) → is_among wires w ≡ true → slice_get levels w ≡ Some n → IsLiveFrom g w n

-- the edges without sources among the first n
pub record IsSourceless (g : PlainGraph) (n : ℕ) (order : List ℕ) : Type 0 where
  pub all : (k : ℕ) → k < n → source_at g k 0 ≡ None → Contains order k
  pub only : (k : ℕ) → Contains order k → (k < n) × (source_at g k 0 ≡ None)
  pub once : (i j k : ℕ) → slice_get order i ≡ Some k → slice_get order j ≡ Some k → i ≡ j

-- what is written at the wires of a list, and nothing else
pub record IsWritten (wires : List ℕ) (x : ℕ) (before after : List ℕ) : Type 0 where
  pub size : length after ≡ length before
  pub at : (w n : ℕ) → slice_get after w ≡ Some n → is_among wires w ≡ true → n ≡ x
  pub rest : (w : ℕ) → is_among wires w ≡ false → slice_get after w ≡ slice_get before w
