-- Relations on numbers, and their chains.
use Rattle.std.specs.Prelude.{◌≡◌, ◌<◌, ℕ, Bool, true, false, List, [], length, slice_index_or, count_by}

-- which numbers lead to which at once: a row for each number, which says of each number whether it does
abbrev pub relates : List (List Bool) → ℕ → ℕ → Bool
relates rows i j = slice_index_or (slice_index_or rows i []) j false

-- each row has a mark for each row
abbrev pub IsSquare : List (List Bool) → Type 0
IsSquare rows = (i : ℕ) → i < length rows → length (slice_index_or rows i []) ≡ length rows

-- a chain of one step or more leads from the one number to the other
pub data Leads (rows : List (List Bool)) : ℕ → ℕ → Type 0 where
  at_once : {i j : ℕ} → relates rows i j ≡ true → Leads rows i j
  by_way_of : {i k j : ℕ} → relates rows i k ≡ true → Leads rows k j → Leads rows i j

-- to how many numbers a number leads at once
abbrev pub count_from : List (List Bool) → ℕ → ℕ
count_from rows i = count_by (λ (mark : Bool). mark) (slice_index_or rows i [])
