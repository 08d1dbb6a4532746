-- Names are text, and each is one name by itself.
use Rattle.std.specs.Prelude.{◌≡◌, ◌⊎◌, ℕ, Bool, true, false, IsTrue, List, length, All}
use Rattle.std.specs.Str.{IsUtf8}
use Rattle.chyp_lex.specs.declared.token.Token.{Token}
use Rattle.chyp_lex.specs.declared.token.TokenKind.{TokenKind}
use Rattle.chyp_lex.specs.declared.token.TokenKind.TheVariants.{Ident, Dotted}
use Rattle.chyp_lex.specs.Lexemes.{BeginsWithDotted, BeginsWithIdentifier, kind_of_word}
use Rattle.chyp_lex.specs.Tokens.{AreTokens, token_text}

-- an identifier, or identifiers joined by dots
abbrev pub is_name : TokenKind → Bool
is_name Ident = true
is_name Dotted = true
is_name _ = false

-- the text is one identifier that is no reserved word, or identifiers joined by dots
abbrev pub IsNameText : List ℕ → Type 0
IsNameText text = (BeginsWithIdentifier text (length text) × (kind_of_word text ≡ Ident)) ⊎ BeginsWithDotted text (length text)

-- the bytes of each name are UTF-8, and are a name by themselves
abbrev pub NamesAreText : List ℕ → List Token → Type 0
NamesAreText text tokens =
    All (λ token. IsTrue (is_name token.kind) → IsUtf8 (token_text text token) × IsNameText (token_text text token)) tokens

-- so it is for the tokens of every text
abbrev pub EachNameIsText : Type 0
EachNameIsText = (text : List ℕ) (tokens : List Token) → AreTokens text tokens → NamesAreText text tokens
