-- All occurrences of a plain graph in another, in lexicographic order.
use Rattle.std.specs.Prelude.{ℕ, ◌<◌, ◌≡◌, ◌⊎◌, List, [], ◌∷◌, ◌++◌, Some, slice_get, Contains, ◌↔◌}
use Rattle.chyp_graph.specs.PlainGraph.{PlainGraph}
use Rattle.chyp_pattern.specs.declared.occurrence.Occurrence.{Occurrence}
use Rattle.chyp_pattern.specs.Occurrence.{IsOccurrence}

-- less in lexicographic order
abbrev pub IsLess : List ℕ → List ℕ → Type 0
IsLess [] [] = ⊥
IsLess [] (y ∷ ys) = Unit {0}
IsLess (x ∷ xs) [] = ⊥
IsLess (x ∷ xs) (y ∷ ys) = (x < y) ⊎ ((x ≡ y) × IsLess xs ys)

-- edge images come before wire images
abbrev pub IsBefore : Occurrence → Occurrence → Type 0
IsBefore a b = IsLess (a.edges ++ a.wires) (b.edges ++ b.wires)

-- each of them comes before those behind it
abbrev pub AreOrdered : List Occurrence → Type 0
AreOrdered os = (i j : ℕ) (a b : Occurrence) → i < j → slice_get os i ≡ Some a → slice_get os j ≡ Some b → IsBefore a b

-- the occurrences of l in g: all of them, each once, in lexicographic order
pub record AreOccurrences (l g : PlainGraph) (os : List Occurrence) : Type 0 where
  pub ordered : AreOrdered os
  pub members : (o : Occurrence) → Contains os o ↔ IsOccurrence l g o.edges o.wires
