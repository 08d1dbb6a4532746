-- Where a number stands in a list of numbers.
use Rattle.std.specs.Prelude.{ℕ, suc, Bool, true, false, not, cond, eqb, List, [], ◌∷◌, Option, Some, None, option_map}

-- the first place of w in ks
abbrev pub place_of : ℕ → List ℕ → Option ℕ
place_of w [] = None
place_of w (k ∷ ks) = cond (eqb k w) (Some 0) (option_map suc (place_of w ks))

-- there is a place
abbrev pub is_there : Option ℕ → Bool
is_there None = false
is_there (Some k) = true

-- w is one of ks
abbrev pub is_among : List ℕ → ℕ → Bool
is_among ks w = is_there (place_of w ks)

-- w is none of ks
abbrev pub is_apart : List ℕ → ℕ → Bool
is_apart ks w = not (is_there (place_of w ks))
