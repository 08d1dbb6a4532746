-- Libraries of modules, and the statements of their texts.
use Rattle.std.specs.Prelude.{◌≡◌, ℕ, List, [], ◌∷◌, Option, None, Some, find}
use Rattle.std.specs.Option.{option_map_or}
use Rattle.std.specs.Str.{bytes_eq}
use Rattle.chyp_lex.specs.Tokens.{AreTokens}
use Rattle.chyp_lex.specs.declared.token.Token.{Token}
use Rattle.chyp_syntax.specs.Chunk.{AreChunks}
use Rattle.chyp_syntax.specs.declared.chunk.Chunk.{Chunk}
use Rattle.chyp_syntax.specs.Words.{Word}
use Rattle.chyp_verdicts.specs.Texts.{statements_of}

-- the text of each module, by its name; None where there is no such module
abbrev pub Library : Type 0
Library = List ℕ → Option (List ℕ)

-- the library with a main text, which is the module of the empty name
abbrev pub with_main : Library → List ℕ → Library
with_main library text [] = Some text
with_main library text (byte ∷ name) = library (byte ∷ name)

-- a name, with the text of its module, or with none where there is no such module
abbrev pub Module : Type 0
Module = List ℕ × Option (List ℕ)

-- the library of finitely many names; there is no module of any other name
abbrev pub library_of : List Module → Library
library_of modules name = option_map_or (λ (m : Module). m.1) (find (λ (m : Module). bytes_eq name m.0) modules) None

-- the statements of a text, each by its words
pub record AreStatements (text : List ℕ) (statements : List (List Word)) : Type 0 where
  pub tokens : List Token
  pub chunks : List Chunk
  pub are_tokens : AreTokens text tokens
  pub are_chunks : AreChunks tokens chunks
  pub each : statements ≡ statements_of text tokens chunks

-- the module of this name is there, with this text and these statements
pub record IsModule (library : Library) (name text : List ℕ) (statements : List (List Word)) : Type 0 where
  pub there : library name ≡ Some text
  pub are : AreStatements text statements
