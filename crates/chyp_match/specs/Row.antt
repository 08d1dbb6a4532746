-- Marks of the edges of a graph.
use Rattle.std.specs.Prelude.{ℕ, ◌≡◌, Bool, true, List, length, Some, slice_get, ◌⊎◌, ◌↔◌}

-- a mark for each edge, or none yet, and how many there is room for
pub record Marks : Type 0 where
  pub marks : List Bool
  pub room : ℕ

-- the number is marked
abbrev pub IsMarked : List Bool → ℕ → Type 0
IsMarked marks j = slice_get marks j ≡ Some true

-- what is marked in one of two lists, and nothing else
pub record IsUnion (first second union : List Bool) : Type 0 where
  pub size : length union ≡ length first
  pub marks : (j : ℕ) → IsMarked union j ↔ (IsMarked first j ⊎ IsMarked second j)

-- the same of rows, in the room of the first
pub record IsJoined (first second joined : Marks) : Type 0 where
  pub room : joined.room ≡ first.room
  pub union : IsUnion first.marks second.marks joined.marks
