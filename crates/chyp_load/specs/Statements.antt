-- What contracts see of a text with its statements.
use Rattle.std.specs.Prelude.{ℕ, ◌≤◌, List, length}
use Rattle.chyp_lex.specs.Names.{NamesAreText}
use Rattle.chyp_lex.specs.Tokens.{AreSpans, AreTokens, text_limit}
use Rattle.chyp_lex.specs.declared.token.Token.{Token}
use Rattle.chyp_syntax.specs.Chunk.{AreChunks}
use Rattle.chyp_syntax.specs.declared.chunk.Chunk.{Chunk}

-- a text, some tokens and some chunks
pub record CutText : Type 0 where
  pub text : List ℕ
  pub tokens : List Token
  pub chunks : List Chunk

-- The text is short, these are its tokens, which lie in order in it and whose names are UTF-8, and their chunks.
pub record IsCut (cut : CutText) : Type 0 where
  pub short : length cut.text ≤ text_limit
  pub tokens : AreTokens cut.text cut.tokens
  pub spans : AreSpans (length cut.text) cut.tokens
  pub names : NamesAreText cut.text cut.tokens
  pub chunks : AreChunks cut.tokens cut.chunks
