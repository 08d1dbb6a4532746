-- Lists under names.
use Rattle.std.specs.Prelude.{ℕ, List, [], map, Vec}
use Rattle.std.specs.Global.{Global}
use Rattle.std.specs.Map.{lookup}
use Rattle.std.specs.Option.{unwrap_or}
use Rattle.std.specs.Str.{bytes_eq}

module _ {T : Type 0} where
  -- the rows of a map
  abbrev pub rows_of : List (List ℕ × Vec T Global) → List (List ℕ × List T)
  rows_of entries = map (λ e. (e.0, e.1.items)) entries

  -- the list under the name, which is empty where there is none
  abbrev pub list_of : List ℕ → List (List ℕ × List T) → List T
  list_of name rows = unwrap_or (lookup (bytes_eq name) rows) []
