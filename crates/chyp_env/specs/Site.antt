-- Where a statement stands.
use Rattle.std.specs.Prelude.{◌≡◌, ℕ, List, Option}
use Rattle.chyp_syntax.specs.Sentence.{IsSentence}
use Rattle.chyp_syntax.specs.Statement.{inclusion}
use Rattle.chyp_env.specs.Environment.{Binding}
use Rattle.chyp_env.specs.Scope.{Scope}

-- What a statement imports: nothing, where it is no import; a module that is absent; one that reaches itself; or one that
-- is there, with the environment that its statements make.
pub data Imported : Type 0 where
  nothing : Imported
  absent : Imported
  on_cycle : Imported
  there : (env : List Binding) → Imported

-- a statement by its words and what names stand for in front of it, the name of its module (empty for the main text), and
-- what it imports
pub record Site : Type 0 where
  pub scope : Scope
  pub home : List ℕ
  pub imported : Imported

-- the statement imports nothing, or it is an import
pub data IsImportState (site : Site) : Type 0 where
  no_import : site.imported ≡ nothing → IsImportState site
  an_import : {word : ℕ} {as_word : Option ℕ} → IsSentence site.scope.words (inclusion word as_word) → IsImportState site
