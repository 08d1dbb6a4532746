-- How the tokens of a text are cut into chunks: this project's own rule.
use Rattle.std.specs.Prelude.{◌≡◌, ℕ, ◌+◌, ◌<◌, Bool, true, false, IsTrue, List, [], ◌∷◌, length, map, Contains, slice_get, Some, ◌⊎◌, ◌↔◌}
use Rattle.chyp_lex.specs.declared.token.Token.{Token}
use Rattle.chyp_lex.specs.declared.token.TokenKind.{TokenKind}
use Rattle.chyp_lex.specs.declared.token.TokenKind.TheVariants.{WordGen, WordLet, WordRule, WordRewrite, WordImport, WordShow, WordType}
use Rattle.chyp_syntax.specs.declared.chunk.Chunk.{Chunk}

-- the token is a statement keyword
abbrev pub is_statement_keyword : TokenKind → Bool
is_statement_keyword WordGen = true
is_statement_keyword WordLet = true
is_statement_keyword WordRule = true
is_statement_keyword WordRewrite = true
is_statement_keyword WordImport = true
is_statement_keyword WordShow = true
is_statement_keyword WordType = true
is_statement_keyword _ = false

-- the chunks lie one behind the other from `start` to `end`, and none is empty
abbrev pub Tile : ℕ → List Chunk → ℕ → Type 0
Tile start [] end = start ≡ end
Tile start (chunk ∷ rest) end = (chunk.first ≡ start) × (0 < chunk.count) × Tile (start + chunk.count) rest end

-- the chunks tile the tokens, and begin at the very first token and at each statement keyword
pub record AreChunks (tokens : List Token) (chunks : List Chunk) : Type 0 where
  pub tile : Tile 0 chunks (length tokens)
  pub starts : (at : ℕ) (token : Token) → slice_get tokens at ≡ Some token →
      Contains (map (λ (chunk : Chunk). chunk.first) chunks) at ↔ ((at ≡ 0) ⊎ IsTrue (is_statement_keyword token.kind))

-- each list of tokens has exactly one list of chunks
abbrev pub HasOneListOfChunks : List Token → Type 0
HasOneListOfChunks tokens = (chunks : List Chunk) × AreChunks tokens chunks
    × ((others : List Chunk) → AreChunks tokens others → others ≡ chunks)
