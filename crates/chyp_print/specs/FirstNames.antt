-- Which bindings of an environment are the first of their generators.
use Rattle.std.specs.Prelude.{◌≡◌, ℕ, ◌+◌, Bool, false, cond, List, [], ◌∷◌, Option, None, Some, Vec}
use Rattle.std.specs.Global.{Global}
use Rattle.std.specs.Map.{lookup}
use Rattle.std.specs.Str.{bytes_eq}
use Rattle.chyp_env.specs.Environment.{Binding, Sense, generator as a_generator}

-- a name stands for a generator of this name, of whatever type
abbrev pub is_named : List ℕ → Sense → Bool
is_named name (a_generator n c d) = bytes_eq name n
is_named name _ = false

-- the number of the first binding of such a generator, counted from k
abbrev pub first_number : ℕ → List ℕ → List Binding → Option ℕ
first_number k name [] = None
first_number k name (binding ∷ env) = cond (is_named name binding.sense) (Some k) (first_number (k + 1) name env)

-- what is looked up by a name
abbrev pub number_of : List ℕ → List (Vec ℕ Global × ℕ) → Option ℕ
number_of name numbers = lookup (λ key. bytes_eq name key.items) numbers

-- each name has the number of the first binding of a generator of that name
abbrev pub IsIndex : List Binding → List (Vec ℕ Global × ℕ) → Type 0
IsIndex env numbers = (name : List ℕ) → number_of name numbers ≡ first_number 0 name env

-- the first of two, where it is there
abbrev pub or_else : Option ℕ → Option ℕ → Option ℕ
or_else None other = other
or_else (Some n) other = Some n

-- the name of a generator got a number, unless it had one
abbrev pub IsNoted : Sense → ℕ → (before after : List (Vec ℕ Global × ℕ)) → Type 0
IsNoted sense number before after =
    (name : List ℕ) → number_of name after ≡ or_else (number_of name before) (cond (is_named name sense) (Some number) None)
