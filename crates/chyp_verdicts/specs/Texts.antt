-- The statements of a text.
use Rattle.std.specs.Prelude.{ℕ, List, map}
use Rattle.chyp_lex.specs.declared.token.Token.{Token}
use Rattle.chyp_syntax.specs.declared.chunk.Chunk.{Chunk}
use Rattle.chyp_syntax.specs.Heading.{chunk_tokens}
use Rattle.chyp_syntax.specs.Words.{Word, words_of}

-- the words of the statement that a chunk of a text is
abbrev pub statement_of : List ℕ → List Token → Chunk → List Word
statement_of text tokens chunk = words_of text (chunk_tokens tokens chunk)

-- the statements of a text, by their words
abbrev pub statements_of : List ℕ → List Token → List Chunk → List (List Word)
statements_of text tokens chunks = map (statement_of text tokens) chunks
