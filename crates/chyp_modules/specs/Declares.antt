-- What names the texts of a library declare, and from which statement each comes. No verdict is asked for, and not what a name stands
-- for: a `gen`, `let`, `rule` or `rewrite` declares its name also where it is refused, and an import is refused for names and origins
-- alone.
use Rattle.std.specs.Prelude.{◌≡◌, ℕ, zero, suc, List, [], ◌∷◌, ◌++◌, map, length, find, Contains, Option, None, Some, is_none, option_map, slice_get}
use Rattle.std.specs.List.{filter}
use Rattle.std.specs.Str.{bytes_eq}
use Rattle.chyp_syntax.specs.Heading.{declared_name}
use Rattle.chyp_syntax.specs.Words.{Word, bytes_at}
use Rattle.chyp_env.specs.Import.{prefixed}
use Rattle.chyp_env.specs.Environment.{Origin}
use Rattle.chyp_modules.specs.Import.{Imports, ImportsNothing, Reaches}
use Rattle.chyp_modules.specs.Library.{Library, IsModule}

-- a name, and the statement that it comes from
pub record Declaration : Type 0 where
  pub name : List ℕ
  pub origin : Origin

-- the statement that a name comes from, None where the name isn't declared
abbrev pub origin_of : List Declaration → List ℕ → Option Origin
origin_of declarations name = option_map (λ (d : Declaration). d.origin) (find (λ (d : Declaration). bytes_eq name d.name) declarations)

-- a name that is offered is declared already, and comes from another statement
pub record Clashes (front offered : List Declaration) : Type 0 where
  pub new : Declaration
  pub is_offered : Contains offered new
  pub old : Origin
  pub is_declared : origin_of front new.name ≡ Some old
  pub differs : ¬ (old ≡ new.origin)

-- What is declared behind a statement that offers these names: where one of them clashes, nothing more; else those names too that
-- aren't declared yet.
pub data Adds (front offered : List Declaration) : List Declaration → Type 0 where
  none : Clashes front offered → Adds front offered front
  new_ones : ¬ Clashes front offered → Adds front offered (front ++ filter (λ (d : Declaration). is_none (origin_of front d.name)) offered)

-- the names of a module as an import offers them: behind its prefix, if it has one, and from the same statements
abbrev pub offered_by : Option (List ℕ) → List Declaration → List Declaration
offered_by prefix declarations = map (λ (d : Declaration). record { name = prefixed prefix d.name; origin = d.origin }) declarations

mutual
  -- the first statements of a module, as many as this, declare these names, in this order
  pub data Declares (library : Library) : List ℕ → ℕ → List Declaration → Type 0 where
    at_start : {name text : List ℕ} {statements : List (List Word)} → IsModule library name text statements
        → Declares library name zero []
    one_more : {name text : List ℕ} {number : ℕ} {statements : List (List Word)} {words : List Word} {front offered next : List Declaration}
        → IsModule library name text statements → slice_get statements number ≡ Some words → Declares library name number front
        → Offers library (record { home = name; number = number }) words offered → Adds front offered next
        → Declares library name (suc number) next

  -- What the statement of this origin, with these words, offers: its own name; or, where it imports a module that is there and doesn't
  -- reach itself, all names of that module; or nothing.
  pub data Offers (library : Library) : Origin → List Word → List Declaration → Type 0 where
    its_name : {origin : Origin} {words : List Word} {name : List ℕ} → declared_name words ≡ Some name
        → Offers library origin words (record { name = name; origin = origin } ∷ [])
    no_name : {origin : Origin} {words : List Word} → declared_name words ≡ None → ImportsNothing words → Offers library origin words []
    of_none : {origin : Origin} {words : List Word} {name : List ℕ} → Imports words name → library name ≡ None
        → Offers library origin words []
    of_cycle : {origin : Origin} {words : List Word} {name : List ℕ} → Imports words name → Reaches library name name
        → Offers library origin words []
    of_module : {origin : Origin} {words : List Word} {name text : List ℕ} {statements : List (List Word)} {declarations : List Declaration}
        → (is : Imports words name)
        → IsModule library name text statements → ¬ Reaches library name name → Declares library name (length statements) declarations
        → Offers library origin words (offered_by (option_map (bytes_at words) is.as_word) declarations)

-- all statements of a module declare these names; for the main text, whose name is empty, so does the text
pub record HasDeclarations (library : Library) (name : List ℕ) (declarations : List Declaration) : Type 0 where
  pub text : List ℕ
  pub statements : List (List Word)
  pub is_module : IsModule library name text statements
  pub declares : Declares library name (length statements) declarations
