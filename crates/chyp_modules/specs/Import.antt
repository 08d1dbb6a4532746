-- Which modules lead to which.
use Rattle.std.specs.Prelude.{◌≡◌, ℕ, List, Option, Some, slice_get}
use Rattle.chyp_syntax.specs.Sentence.{IsSentence}
use Rattle.chyp_syntax.specs.Statement.{inclusion}
use Rattle.chyp_syntax.specs.Words.{Word, bytes_at}
use Rattle.chyp_modules.specs.Library.{Library, IsModule}

-- the statement is an import of the module of this name
pub record Imports (words : List Word) (name : List ℕ) : Type 0 where
  pub word : ℕ
  pub as_word : Option ℕ
  pub is_sentence : IsSentence words (inclusion word as_word)
  pub named : bytes_at words word ≡ name

-- the statement is no import
abbrev pub ImportsNothing : List Word → Type 0
ImportsNothing words = (word : ℕ) (as_word : Option ℕ) → ¬ IsSentence words (inclusion word as_word)

-- a statement of the one module imports the other
pub record LeadsTo (library : Library) (name other : List ℕ) : Type 0 where
  pub text : List ℕ
  pub statements : List (List Word)
  pub is_module : IsModule library name text statements
  pub number : ℕ
  pub words : List Word
  pub here : slice_get statements number ≡ Some words
  pub imports : Imports words other

-- a chain of one or more imports leads from the one module to the other
pub data Reaches (library : Library) : List ℕ → List ℕ → Type 0 where
  at_once : {name other : List ℕ} → LeadsTo library name other → Reaches library name other
  by_way_of : {name next other : List ℕ} → LeadsTo library name next → Reaches library next other → Reaches library name other
