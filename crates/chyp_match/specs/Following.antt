-- What follows from pairs of items of which an embedding takes the one to the other.
use Rattle.std.specs.Prelude.{ℕ, ◌<◌, ◌≡◌, Bool, true, false, eqb, List, Option, Some, None, slice_get}
use Rattle.chyp_graph.specs.PlainGraph.{PlainGraph}
use Rattle.chyp_pairs.specs.declared.pair.Pair.{Pair}
use Rattle.chyp_pairs.specs.declared.pair.Pair.TheVariants.{Wires, Edges}
use Rattle.chyp_pairs.specs.Pairs.{Has}
use Rattle.chyp_iso.specs.Port.{IsPortAt, Side}
use Rattle.chyp_iso.specs.Following.{IsFollowedDown}
use Rattle.chyp_match.specs.Embedding.{Embedding}

-- the embedding takes the first item of the pair to the second
abbrev pub MapsPair : {l g : PlainGraph} → Embedding l g → Pair → Type 0
MapsPair m (Wires v w) = m.wire v ≡ w
MapsPair m (Edges e f) = m.edge e ≡ f

-- the embedding makes each of the pairs
abbrev pub Maps : {l g : PlainGraph} → Embedding l g → List Pair → Type 0
Maps m pairs = (p : Pair) → Has pairs p → MapsPair m p

-- no embedding makes the pairs and the seeds
abbrev pub Refutes : PlainGraph → PlainGraph → List Pair → List Pair → Type 0
Refutes l g seeds pairs = (m : Embedding l g) → Maps m pairs → Maps m seeds → ⊥

-- where the first port is there, an edge and a place, the second is there too, at the same place
abbrev pub keeps_place : Option (ℕ × ℕ) → Option (ℕ × ℕ) → Bool
keeps_place None q = true
keeps_place (Some p) None = false
keeps_place (Some p) (Some q) = eqb p.1 q.1

-- the edge that has the first wire on this side is in a pair with one that has the second there, at the same place
abbrev pub IsFollowedUp : PlainGraph → PlainGraph → List Pair → Side → ℕ → ℕ → Type 0
IsFollowedUp l g pairs side v w = (e i : ℕ) → IsPortAt l side e i v → (f : ℕ) × IsPortAt g side f i w × Has pairs (Edges e f)

-- all that the first item of the pair touches is paired
abbrev pub IsFollowed : PlainGraph → PlainGraph → List Pair → Pair → Type 0
IsFollowed l g pairs (Wires v w) = (side : Side) → IsFollowedUp l g pairs side v w
IsFollowed l g pairs (Edges e f) = (side : Side) → IsFollowedDown l g pairs side e f

-- the pairs before a place are followed
abbrev pub AreFollowed : PlainGraph → PlainGraph → List Pair → ℕ → Type 0
AreFollowed l g pairs n = (i : ℕ) (p : Pair) → i < n → slice_get pairs i ≡ Some p → IsFollowed l g pairs p

-- all that the first items of the pairs touch is paired
abbrev pub IsComplete : PlainGraph → PlainGraph → List Pair → Type 0
IsComplete l g pairs = (p : Pair) → Has pairs p → IsFollowed l g pairs p
