-- What a statement, the tokens of one chunk, shows of itself without its tree.
use Rattle.std.specs.Prelude.{ℕ, ◌+◌, ◌-◌, Bool, true, false, ◌&&◌, List, [], ◌∷◌, length, take, drop, Option, Some, None, is_some, unwrap_or, slice_get, codes, if◌then◌else◌}
use Rattle.std.specs.Option.{option_map_or}
use Rattle.chyp_lex.specs.declared.token.Token.{Token}
use Rattle.chyp_lex.specs.declared.token.TokenKind.{TokenKind}
use Rattle.chyp_lex.specs.declared.token.TokenKind.TheVariants.{Ident, WordGen, WordLet, WordRule, WordRewrite, WordImport, WordShow, WordType}
use Rattle.chyp_lex.specs.Names.{is_name}
use Rattle.chyp_lex.specs.Tokens.{token_text}
use Rattle.chyp_syntax.specs.declared.chunk.Chunk.{Chunk}
use Rattle.chyp_syntax.specs.Words.{Word}

-- the tokens of a chunk
abbrev pub chunk_tokens : List Token → Chunk → List Token
chunk_tokens tokens chunk = take chunk.count (drop chunk.first tokens)

-- the keyword that a statement begins with, None for any other token
abbrev pub keyword_of : TokenKind → Option (List ℕ)
keyword_of WordGen = Some (codes "gen")
keyword_of WordLet = Some (codes "let")
keyword_of WordRule = Some (codes "rule")
keyword_of WordRewrite = Some (codes "rewrite")
keyword_of WordImport = Some (codes "import")
keyword_of WordShow = Some (codes "show")
keyword_of WordType = Some (codes "type")
keyword_of _ = None

-- the keyword of a statement that declares a name
abbrev pub declares : TokenKind → Bool
declares WordGen = true
declares WordLet = true
declares WordRule = true
declares WordRewrite = true
declares _ = false

abbrev pub is_identifier : TokenKind → Bool
is_identifier Ident = true
is_identifier _ = false

-- the name that a statement declares, whatever becomes of it: the identifier behind `gen`, `let`, `rule` or `rewrite`
abbrev pub declared_name : List Word → Option (List ℕ)
declared_name [] = None
declared_name (keyword ∷ []) = None
declared_name (keyword ∷ name ∷ rest) = if declares keyword.kind && is_identifier name.kind then Some name.bytes else None

-- where a token ends: at the byte behind it
abbrev pub end_of : Token → ℕ
end_of token = token.start + token.len

-- where the token of this number begins, or behind the last token where there is none of it
abbrev pub token_start : List Token → ℕ → ℕ
token_start statement number =
    option_map_or (λ token. token.start) (slice_get statement number) (option_map_or end_of (slice_get statement (length statement - 1)) 0)

-- the keyword of a statement, or `stray`
abbrev pub kind_text : List Token → List ℕ
kind_text [] = codes "stray"
kind_text (keyword ∷ rest) = unwrap_or (keyword_of keyword.kind) (codes "stray")

-- the name behind the keyword, None where there is none
abbrev pub shown_name : List ℕ → List Token → Option (List ℕ)
shown_name text [] = None
shown_name text (keyword ∷ []) = None
shown_name text (keyword ∷ name ∷ rest) =
    if is_some (keyword_of keyword.kind) && is_name name.kind then Some (token_text text name) else None
