-- What an import binds of a module's environment.
use Rattle.std.specs.Prelude.{◌≡◌, ℕ, Bool, false, not, ◌&&◌, ◌==◌, List, ◌++◌, map, find, codes, Contains, Option, None, Some, option_map}
use Rattle.std.specs.List.{filter}
use Rattle.std.specs.Option.{option_map_or}
use Rattle.std.specs.Str.{bytes_eq}
use Rattle.chyp_env.specs.Environment.{Binding, Origin, binding_of, is_bound}
use Rattle.chyp_env.specs.Site.{Imported, there}

-- a name as an import binds it: behind the prefix and a dot, if there is a prefix
abbrev pub prefixed : Option (List ℕ) → List ℕ → List ℕ
prefixed None name = name
prefixed (Some prefix) name = prefix ++ (codes "." ++ name)

-- a binding as an import passes it on: it has the same origin and the same sense
abbrev pub passed_on : Option (List ℕ) → Binding → Binding
passed_on prefix binding = record { name = prefixed prefix binding.name; origin = binding.origin; sense = binding.sense }

abbrev pub all_passed_on : Option (List ℕ) → List Binding → List Binding
all_passed_on prefix bindings = map (passed_on prefix) bindings

-- the origins are one statement
abbrev pub is_origin : Origin → Origin → Bool
is_origin a b = bytes_eq a.home b.home && (a.number == b.number)

-- two bindings come from one statement
abbrev pub same_origin : Binding → Binding → Bool
same_origin a b = is_origin a.origin b.origin

-- the name is bound already, and to another statement
abbrev pub clashes : List Binding → Binding → Bool
clashes env binding = option_map_or (λ old. not (same_origin old binding)) (binding_of env binding.name) false

-- the first of the names that is
abbrev pub first_clash : List Binding → List Binding → Option (List ℕ)
first_clash env bindings = option_map (λ binding. binding.name) (find (clashes env) bindings)

-- the bindings whose names aren't bound already; the others are passed over
abbrev pub new_in : List Binding → List Binding → List Binding
new_in env bindings = filter (λ binding. not (is_bound env binding.name)) bindings

-- bindings of one origin have one sense, in an environment and in that of the module which is imported
abbrev pub AgreeOnOrigins : List Binding → Imported → Type 0
AgreeOnOrigins env (there other) = (a b : Binding) → Contains env a → Contains other b → a.origin ≡ b.origin → a.sense ≡ b.sense
AgreeOnOrigins env _ = Unit {0}
