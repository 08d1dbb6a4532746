-- What follows from pairs of items that an isomorphism makes.
use Rattle.std.specs.Prelude.{ℕ, ◌<◌, ◌≡◌, Bool, true, List, ◌++◌, Some, slice_get}
use Rattle.chyp_graph.specs.PlainGraph.{PlainGraph}
use Rattle.chyp_graph.specs.Isomorphism.{Isomorphic}
use Rattle.chyp_graph.specs.Validity.{IsValid}
use Rattle.chyp_pairs.specs.declared.pair.Pair.{Pair}
use Rattle.chyp_pairs.specs.declared.pair.Pair.TheVariants.{Wires, Edges}
use Rattle.chyp_iso.specs.Pair.{MapsPair, PairFits}
use Rattle.chyp_pairs.specs.Pairs.{Has, Pairs}
use Rattle.chyp_iso.specs.Port.{IsPortAt, Side}
use Rattle.chyp_iso.specs.Scratch.{HasRoomFor}

-- a test of pairs that passes from edges to the wires at one port, and from wires to the edges that have them at one port
pub record IsClosedUnder (g h : PlainGraph) (test : Pair → Bool) : Type 0 where
  pub down : (side : Side) (e f i v w : ℕ) → test (Edges e f) ≡ true → IsPortAt g side e i v → IsPortAt h side f i w
      → test (Wires v w) ≡ true
  pub up : (side : Side) (e f i v w : ℕ) → test (Wires v w) ≡ true → IsPortAt g side e i v → IsPortAt h side f i w
      → test (Edges e f) ≡ true

-- each of the pairs passes the test
abbrev pub Passes : (Pair → Bool) → List Pair → Type 0
Passes test pairs = (p : Pair) → Has pairs p → test p ≡ true

-- both graphs are valid and there is room for them, and each of the pairs may be part of an isomorphism
pub record Fits (g h : PlainGraph) (s : Pairs) : Type 0 where
  pub first_valid : IsValid g
  pub second_valid : IsValid h
  pub first : HasRoomFor s.edges s.wires g
  pub second : HasRoomFor s.edges s.wires h
  pub pairs : (p : Pair) → Has s.pairs p → PairFits g h p

-- from s to t come only pairs that follow from those of s and from the seeds
pub record Leads (g h : PlainGraph) (seeds : List Pair) (s t : Pairs) : Type 0 where
  pub edges : t.edges ≡ s.edges
  pub wires : t.wires ≡ s.wires
  pub more : (new : List Pair) × (t.pairs ≡ s.pairs ++ new)
  pub fits : Fits g h t
  pub follows : (test : Pair → Bool) → IsClosedUnder g h test → Passes test s.pairs → Passes test seeds → Passes test t.pairs

-- the isomorphism makes each of the pairs
abbrev pub Maps : {g h : PlainGraph} → Isomorphic g h → List Pair → Type 0
Maps iso pairs = (p : Pair) → Has pairs p → MapsPair iso p

-- no isomorphism makes the pairs and the seeds
abbrev pub Refutes : PlainGraph → PlainGraph → List Pair → List Pair → Type 0
Refutes g h seeds pairs = (iso : Isomorphic g h) → Maps iso pairs → Maps iso seeds → ⊥

-- each of the seeds is one of the pairs
abbrev pub Includes : List Pair → List Pair → Type 0
Includes seeds pairs = (p : Pair) → Has seeds p → Has pairs p

-- the edges that have the two wires on this side are a pair, at one place
pub record IsFollowedUp (g h : PlainGraph) (pairs : List Pair) (side : Side) (v w : ℕ) : Type 0 where
  pub there : (e i : ℕ) → IsPortAt g side e i v → (f : ℕ) × IsPortAt h side f i w × Has pairs (Edges e f)
  pub back : (f i : ℕ) → IsPortAt h side f i w → (e : ℕ) × IsPortAt g side e i v × Has pairs (Edges e f)

-- the wires at each place of the two edges on this side are a pair
pub record IsFollowedDown (g h : PlainGraph) (pairs : List Pair) (side : Side) (e f : ℕ) : Type 0 where
  pub there : (i v : ℕ) → IsPortAt g side e i v → (w : ℕ) × IsPortAt h side f i w × Has pairs (Wires v w)
  pub back : (i w : ℕ) → IsPortAt h side f i w → (v : ℕ) × IsPortAt g side e i v × Has pairs (Wires v w)

-- all that the pair touches is paired
abbrev pub IsFollowed : PlainGraph → PlainGraph → List Pair → Pair → Type 0
IsFollowed g h pairs (Wires v w) = (side : Side) → IsFollowedUp g h pairs side v w
IsFollowed g h pairs (Edges e f) = (side : Side) → IsFollowedDown g h pairs side e f

-- the pairs before a place are followed
abbrev pub AreFollowed : PlainGraph → PlainGraph → List Pair → ℕ → Type 0
AreFollowed g h pairs n = (i : ℕ) (p : Pair) → i < n → slice_get pairs i ≡ Some p → IsFollowed g h pairs p

-- all that any of the pairs touches is paired
abbrev pub IsComplete : PlainGraph → PlainGraph → List Pair → Type 0
IsComplete g h pairs = (p : Pair) → Has pairs p → IsFollowed g h pairs p
