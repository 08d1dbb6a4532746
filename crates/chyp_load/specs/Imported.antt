-- The word of an import that names its module. No public clause cites this.
use Rattle.std.specs.Prelude.{ℕ, Option, None, Some}
use Rattle.chyp_syntax.specs.Statement.{StatementTree, inclusion}

-- the number of the word that names the module of an import, None for every other statement
abbrev pub imported_word : StatementTree → Option ℕ
imported_word (inclusion word prefix) = Some word
imported_word _ = None
