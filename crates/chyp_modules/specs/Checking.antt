-- What checking a text with its modules gives: the modules that are read, the limits, the verdicts, and how many statements are
-- checked.
use Rattle.std.specs.Prelude.{◌≡◌, ℕ, ◌+◌, ◌<◌, ◌≤◌, List, [], ◌∷◌, length, Contains, Some}
use Rattle.chyp_base.specs.declared.verdict.Verdict.{Verdict}
use Rattle.chyp_lex.specs.Tokens.{text_limit}
use Rattle.chyp_syntax.specs.Words.{Word}
use Rattle.chyp_modules.specs.Import.{Reaches}
use Rattle.chyp_modules.specs.Library.{Library, IsModule, with_main}
use Rattle.chyp_modules.specs.Modules.{AreVerdicts}

-- the most modules that may be there
abbrev pub most_modules : ℕ
most_modules = 64

-- no name stands in the list twice
abbrev pub AreDistinct : List (List ℕ) → Type 0
AreDistinct [] = Unit {0}
AreDistinct (name ∷ names) = (¬ Contains names name) × AreDistinct names

-- the module is wanted, since the main text reaches it, and it is there with this text
pub record IsWanted (library : Library) (name text : List ℕ) : Type 0 where
  pub reached : Reaches library [] name
  pub there : library name ≡ Some text

-- the names are those of modules that are wanted and there, and each stands there once
pub record AreWanted (library : Library) (names : List (List ℕ)) : Type 0 where
  pub distinct : AreDistinct names
  pub each : (name : List ℕ) → Contains names name → (text : List ℕ) × IsWanted library name text

-- and there is no other
abbrev pub AreAllWanted : Library → List (List ℕ) → Type 0
AreAllWanted library names = AreWanted library names × ((name text : List ℕ) → IsWanted library name text → Contains names name)

-- some modules have this many statements together
pub data HaveStatements (library : Library) : List (List ℕ) → ℕ → Type 0 where
  of_none : HaveStatements library [] 0
  of_more : {name text : List ℕ} {statements : List (List Word)} {names : List (List ℕ)} {n : ℕ} → IsModule library name text statements
      → HaveStatements library names n
      → HaveStatements library (name ∷ names) (length statements + n)

-- The main text and the modules that it wants have this many statements together: so many statements are checked for it. Each module
-- counts once, however often it is imported.
pub record HasChecks (library : Library) (checks : ℕ) : Type 0 where
  pub names : List (List ℕ)
  pub wanted : AreAllWanted library names
  pub have : HaveStatements library ([] ∷ names) checks

-- nothing is checked; or the statements of the text get these verdicts, and so many statements are checked
pub data Result : Type 0 where
  too_long : Result
  checked : (verdicts : List Verdict) (checks : ℕ) → Result

-- What checking gives for a library with a main text. Where that text or that of a module that is wanted passes its limit, or
-- more modules than allowed are wanted and there, nothing is checked. Else all statements of the text and of those modules are.
pub data Gives (library : Library) (text : List ℕ) : Result → Type 0 where
  long_text : text_limit < length text → Gives library text too_long
  long_module : {name whole : List ℕ} → length text ≤ text_limit → IsWanted (with_main library text) name whole → text_limit < length whole
      → Gives library text too_long
  many_modules : {names : List (List ℕ)} → length text ≤ text_limit → AreWanted (with_main library text) names → most_modules < length names
      → Gives library text too_long
  all_checked : {names : List (List ℕ)} {verdicts : List Verdict} {checks : ℕ} → length text ≤ text_limit
      → AreAllWanted (with_main library text) names → length names ≤ most_modules
      → ((name whole : List ℕ) → IsWanted (with_main library text) name whole → length whole ≤ text_limit)
      → AreVerdicts (with_main library text) [] verdicts
      → HaveStatements (with_main library text) ([] ∷ names) checks → Gives library text (checked verdicts checks)

-- a text gives exactly one result
pub record HasOneResult (library : Library) (text : List ℕ) : Type 0 where
  pub result : Result
  pub gives : Gives library text result
  pub only : (other : Result) → Gives library text other → other ≡ result

-- so it is for every text in every library, also one without end
abbrev pub TextsHaveOneResult : Type 0
TextsHaveOneResult = (library : Library) (text : List ℕ) → HasOneResult library text
