-- What tokens begin with, from a place on. No public clause cites this.
use Rattle.std.specs.Prelude.{◌≡◌, ℕ, List, [], ◌∷◌, drop}
use Rattle.chyp_lex.specs.declared.token.Token.{Token}
use Rattle.chyp_lex.specs.declared.token.TokenKind.{TokenKind}
use Rattle.chyp_lex.specs.declared.token.TokenKind.TheVariants.{Number}
use Rattle.chyp_syntax.specs.Numbered.{NumberedToken, numbered, kind_of, value_of, IsName}
use Rattle.chyp_syntax.specs.Words.{Word, words_of}

-- the numbered terminal symbols of words from the place on
abbrev pub words_from : List Word → ℕ → List NumberedToken
words_from words at = drop at (numbered words)

-- those of tokens, for which no text is needed
abbrev pub tokens_from : List Token → ℕ → List NumberedToken
tokens_from tokens at = words_from (words_of [] tokens) at

-- the first token is of the kind
abbrev pub BeginsWithKind : TokenKind → List NumberedToken → Type 0
BeginsWithKind kind [] = ⊥
BeginsWithKind kind (token ∷ tokens) = kind_of token ≡ kind

-- the first token is a name
abbrev pub BeginsWithName : List NumberedToken → Type 0
BeginsWithName [] = ⊥
BeginsWithName (token ∷ tokens) = IsName token

-- the first token is a number of this value
abbrev pub BeginsWithNumber : ℕ → List NumberedToken → Type 0
BeginsWithNumber value [] = ⊥
BeginsWithNumber value (token ∷ tokens) = (kind_of token ≡ Number) × (value ≡ value_of token)
