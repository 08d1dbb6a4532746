-- Convexity by the ends of a pattern.
use Rattle.std.specs.Prelude.{ℕ, ◌≡◌, List, Option, Some, None, Contains}
use Rattle.chyp_graph.specs.PlainGraph.{PlainGraph}
use Rattle.chyp_pairs.specs.declared.pair.Pair.{Pair}
use Rattle.chyp_pairs.specs.declared.pair.Pair.TheVariants.{Wires}
use Rattle.chyp_pairs.specs.Pairs.{Has}
use Rattle.chyp_iso.specs.Port.{IsPortAt, the_sources, the_targets}
use Rattle.chyp_match.specs.Reach.{LeadsTo}

-- the edge j takes the image of the wire v
abbrev pub TakesImage : PlainGraph → List Pair → ℕ → ℕ → Type 0
TakesImage g pairs v j = (w i : ℕ) × Has pairs (Wires v w) × IsPortAt g the_sources j i w

-- the edge k makes the image of the wire u
abbrev pub MakesImage : PlainGraph → List Pair → ℕ → ℕ → Type 0
MakesImage g pairs u k = (x i : ℕ) × Has pairs (Wires u x) × IsPortAt g the_targets k i x

-- the property holds of this number alone, or of none
abbrev pub IsTheOne : (ℕ → Type 0) → Option ℕ → Type 0
IsTheOne P None = (j : ℕ) → P j → ⊥
IsTheOne P (Some k) = P k × ((j : ℕ) → P j → j ≡ k)

-- a marked edge takes the image of an output
abbrev pub IsTakenAt : PlainGraph → PlainGraph → List Pair → (ℕ → Type 0) → Type 0
IsTakenAt l g pairs P = (v j : ℕ) × Contains l.outputs v × TakesImage g pairs v j × P j

-- no edge that takes the image of an output leads to one that makes the image of an input
abbrev pub IsUnbroken : PlainGraph → PlainGraph → List Pair → Type 0
IsUnbroken l g pairs = (u k : ℕ) → Contains l.inputs u → MakesImage g pairs u k → IsTakenAt l g pairs (λ j. LeadsTo g j k) → ⊥
