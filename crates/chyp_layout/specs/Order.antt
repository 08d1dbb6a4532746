-- The first order: what stands in each column before any sweep.
use Rattle.std.specs.Prelude.{ℕ, ◌≡◌, ◌&&◌, ◌==◌, if◌then◌else◌, nat_le, nat_lt, Bool, List, [], ◌∷◌, ◌++◌, Some, map, filter, length, slice_get}
use Rattle.std.specs.List.{enumerate_from, range_with_len}
use Rattle.chyp_layout.specs.Columns.{end_column, greatest}
use Rattle.chyp_layout.specs.declared.ends.Ends.{Ends}
use Rattle.chyp_layout.specs.declared.item.Item.{Item}
use Rattle.chyp_layout.specs.declared.item.Item.TheVariants.{Box, Wire}

-- the boxes of the column c, in edge order
abbrev pub boxes_in : List ℕ → ℕ → List Item
boxes_in columns c = map (λ p. Box p.0) (filter (λ p. p.1 == c) (enumerate_from 0 columns))

-- the column c is strictly between the ends
abbrev pub is_between : List ℕ → ℕ → Ends → Bool
is_between columns c x = nat_lt (end_column columns x.from) c && nat_lt c (end_column columns x.to)

-- the bends of the column c, in wire order
abbrev pub bends_in : List ℕ → List Ends → ℕ → List Item
bends_in columns ends c = map (λ p. Wire p.0) (filter (λ p. is_between columns c p.1) (enumerate_from 0 ends))

-- the columns from 1 to the last with boxes: in each the boxes, then the bends
abbrev pub first_order : List ℕ → List Ends → List (List Item)
first_order columns ends = map (λ c. boxes_in columns c ++ bends_in columns ends c) (range_with_len 1 (greatest columns))

-- the lists at the places from `from` up to `to` have one item more at their end, that of the place, and the others stay
pub record AreExtended {A : Type 0} (item : ℕ → A) (from to : ℕ) (before after : List (List A)) : Type 0 where
  pub size : length after ≡ length before
  pub at : (j : ℕ) (items : List A) → slice_get before j ≡ Some items
      → slice_get after j ≡ Some (items ++ (if nat_le from j && nat_lt j to then item j ∷ [] else []))
