-- Which modules are read for a text.
use Rattle.std.specs.Prelude.{◌≡◌, ℕ, ◌<◌, ◌≤◌, ◌⊎◌, List, [], ◌∷◌, ◌++◌, All, Contains, count_by, is_some, length, map, MatchOption, MatchResult, Option, Some, IfSome, Result, if◌then◌else◌}
use Rattle.chyp_lex.specs.Tokens.{text_limit}
use Rattle.chyp_modules.specs.Checking.{most_modules}
use Rattle.chyp_modules.specs.Import.{Reaches}
use Rattle.chyp_modules.specs.Library.{Library, Module, library_of, with_main}
use Rattle.chyp_load.specs.declared.load_error.LoadError.{LoadError}
use Rattle.chyp_load.specs.declared.load_error.LoadError.TheVariants.{Failed, TooLong, NoMemory}
use Rattle.chyp_load.specs.Imports.{AreImports}

-- the names of the modules
abbrev pub names_of : List Module → List (List ℕ)
names_of modules = map (λ (m : Module). m.0) modules

-- how many of them are there
abbrev pub count_there : List Module → ℕ
count_there modules = count_by (λ (m : Module). is_some m.1) modules

-- 1 for a module that is there, and else 0
abbrev pub one_there : Option (List ℕ) → ℕ
one_there text = if is_some text then 1 else 0

-- no text of theirs is too long
abbrev pub AreShort : List Module → Type 0
AreShort modules = All (λ (m : Module). IfSome m.1 (λ text. length text ≤ text_limit)) modules

-- the text reaches the module, which is as the library tells it
pub record IsRead (texts : Library) (text : List ℕ) (m : Module) : Type 0 where
  pub reached : Reaches (with_main texts text) [] m.0
  pub told : m.1 ≡ texts m.0

-- so are all these modules, where the library tells its texts
abbrev pub AreRead : Option Library → List ℕ → List Module → Type 0
AreRead told text modules = IfSome told (λ texts. All (IsRead texts text) modules)

-- whatever the text reaches over these modules is the name of one of them
abbrev pub ListsAll : List ℕ → List Module → Type 0
ListsAll text modules = (name : List ℕ) → Reaches (with_main (library_of modules) text) [] name → Contains (names_of modules) name

-- what a text imports is wanted from then on; where there is no text, nothing more is
pub record WantsMore (text : Option (List ℕ)) (wanted wanted_now : List (List ℕ)) : Type 0 where
  pub imports : List (List ℕ)
  pub behind : wanted_now ≡ wanted ++ imports
  pub are : MatchOption text (imports ≡ []) (λ bytes. AreImports bytes imports)
  pub few : length imports ≤ text_limit

-- One module more was read, as the library tells it, and what its text imports is wanted from then on.
pub record IsOneMore (told : Option Library) (name : List ℕ) (modules modules_now : List Module)
    (wanted wanted_now : List (List ℕ)) : Type 0 where
  pub text : Option (List ℕ)
  pub imports : List (List ℕ)
  pub listed : modules_now ≡ modules ++ (name, text) ∷ []
  pub behind : wanted_now ≡ wanted ++ imports
  pub are : MatchOption text (imports ≡ []) (λ bytes. AreImports bytes imports)
  pub few : length imports ≤ text_limit
  pub short : IfSome text (λ bytes. length bytes ≤ text_limit)
  pub as_told : IfSome told (λ texts. text ≡ texts name)

-- the module of this name is there, and it is too long, or as many are there already as may be
pub record IsLongModule (texts : Library) (name : List ℕ) (modules : List Module) : Type 0 where
  pub whole : List ℕ
  pub there : texts name ≡ Some whole
  pub passes : (text_limit < length whole) ⊎ (count_there modules ≡ most_modules)

-- the count of faults rose at `Failed`, and stayed at every other answer
abbrev pub CausedBy : ℕ → ℕ → LoadError → Type 0
CausedBy before now Failed = before < now
CausedBy before now TooLong = now ≡ before
CausedBy before now NoMemory = now ≡ before

abbrev pub LoadHasCause : {T : Type 0} → ℕ → ℕ → Result T LoadError → Type 0
LoadHasCause before now result = MatchResult result (λ _. now ≡ before) (CausedBy before now)
