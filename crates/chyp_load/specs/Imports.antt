-- Which modules the statements of a text import.
use Rattle.std.specs.Prelude.{◌≡◌, ℕ, List, Some, slice_get, Contains}
use Rattle.chyp_syntax.specs.Words.{Word}
use Rattle.chyp_modules.specs.Import.{Imports}
use Rattle.chyp_modules.specs.Library.{AreStatements}

-- a statement of the text imports the module of this name
pub record IsImportedBy (text name : List ℕ) : Type 0 where
  pub statements : List (List Word)
  pub are : AreStatements text statements
  pub number : ℕ
  pub words : List Word
  pub here : slice_get statements number ≡ Some words
  pub imports : Imports words name

-- a statement of the text is an import
abbrev pub ImportsSome : List ℕ → Type 0
ImportsSome text = (name : List ℕ) × IsImportedBy text name

-- these are the names of the modules that the text imports
pub record AreImports (text : List ℕ) (names : List (List ℕ)) : Type 0 where
  pub all : (name : List ℕ) → IsImportedBy text name → Contains names name
  pub only : (name : List ℕ) → Contains names name → IsImportedBy text name
