-- Lists under names, and how much more each may take without memory.
use Rattle.std.specs.Prelude.{ℕ, ◌-◌, ◌≡◌, ◌<◌, ◌≤◌, Some, slice_get, List, [], length, map, vec_capacity, Vec, refl}
use Rattle.std.specs.Global.{Global}
use Rattle.std.specs.Coded.{Coded, code_by, coded×, coded_ℕ, coded_list}
use Rattle.std.specs.Map.{lookup}
use Rattle.std.specs.Option.{option_map_or}
use Rattle.std.specs.Str.{bytes_eq}

-- the items of a list, and how many more fit without memory
pub record Row (T : Type 0) : Type 0 where
  pub items : List T
  pub room : ℕ

abbrev pub row_code : {T : Type 0} → Coded T → Coded (Row T)
row_code {T} code = code_by (List T × ℕ) (coded× (coded_list code) coded_ℕ) (λ r. (r.items, r.room))
    (λ p. record { items = p.0; room = p.1 }) (λ _. refl)

module _ {T : Type 0} where
  abbrev pub row_of : Vec T Global → Row T
  row_of v = record { items = v.items; room = vec_capacity v - length v.items }

  -- the rows of a map
  abbrev pub rows_of : List (List ℕ × Vec T Global) → List (List ℕ × Row T)
  rows_of entries = map (λ e. (e.0, row_of e.1)) entries

  -- the list under the name, which is empty where there is none
  abbrev pub list_of : List ℕ → List (List ℕ × Row T) → List T
  list_of name rows = option_map_or (λ r. r.items) (lookup (bytes_eq name) rows) []

  -- how many more items the list under the name takes without memory
  abbrev pub room_of : List ℕ → List (List ℕ × Row T) → ℕ
  room_of name rows = option_map_or (λ r. r.room) (lookup (bytes_eq name) rows) 0

-- the list under the name of each of the first items has room for so many more
abbrev pub HasRowsTo : {X : Type 0} → ℕ → (X → List ℕ) → List X → ℕ → List (List ℕ × Row ℕ) → Type 0
HasRowsTo {X} end name_of items room rows = (i : ℕ) (x : X) → i < end → slice_get items i ≡ Some x → room ≤ room_of (name_of x) rows

-- the list under the name of each of the items has room for so many more
abbrev pub HasRows : {X : Type 0} → (X → List ℕ) → List X → ℕ → List (List ℕ × Row ℕ) → Type 0
HasRows name_of items room rows = HasRowsTo (length items) name_of items room rows
