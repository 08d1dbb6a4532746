-- The tokens of a text: each is the longest lexeme that begins at the first byte not yet covered.
use Rattle.std.specs.Prelude.{◌≡◌, ℕ, ◌+◌, ◌<◌, ◌≤◌, List, [], ◌∷◌, length, take, drop, Option, Some, None}
use Rattle.std.specs.Str.Parse.{digits_value}
use Rattle.bstr.specs.Utf8.{decoded}
use Rattle.chyp_base.specs.declared.limits.TheConstants.{MAX_TEXT_LEN}
use Rattle.chyp_lex.specs.declared.token.TokenKind.{TokenKind}
use Rattle.chyp_lex.specs.declared.token.TokenKind.TheVariants.{Number, Bad}
use Rattle.chyp_lex.specs.declared.token.Token.{Token}
use Rattle.chyp_lex.specs.Lexemes.{BeginsWith}

-- the most bytes that a text may have
abbrev pub text_limit : ℕ
text_limit = MAX_TEXT_LEN

-- the first n bytes of the text are a lexeme, and no lexeme that the text begins with is longer
pub record IsLongest (text : List ℕ) (n : ℕ) (kind : Option TokenKind) : Type 0 where
  pub begins : BeginsWith text n kind
  pub longest : (m : ℕ) (other : Option TokenKind) → BeginsWith text m other → m ≤ n

-- how many bytes a bad piece takes: those of a well-formed UTF-8 character, or else one
abbrev pub size_or_one : Option ℕ → ℕ → ℕ
size_or_one (Some char) size = size
size_or_one None size = 1

-- what comes first in a text that isn't empty: the longest lexeme, or a bad token where no lexeme begins
pub data IsNext : List ℕ → ℕ → Option TokenKind → Type 0 where
  lexeme : {text : List ℕ} {n : ℕ} {kind : Option TokenKind} → IsLongest text n kind → IsNext text n kind
  bad : {text : List ℕ} → 0 < length text → ((n : ℕ) (kind : Option TokenKind) → ¬ BeginsWith text n kind)
      → IsNext text (size_or_one (decoded text).char (decoded text).size) (Some Bad)

-- the value of a number, and 0 for every other token
abbrev pub value_of : TokenKind → List ℕ → ℕ
value_of Number digits = digits_value 10 digits
value_of _ bytes = 0

-- the token of this kind that takes the first n bytes of a text, which begins at this place
abbrev pub token_at : ℕ → List ℕ → ℕ → TokenKind → Token
token_at start text n kind = record { kind = kind; start = start; len = n; value = value_of kind (take n text) }

-- the tokens of a text that begins at this place
pub data AreTokensFrom : ℕ → List ℕ → List Token → Type 0 where
  nothing_left : {start : ℕ} → AreTokensFrom start [] []
  passed_over : {start n : ℕ} {text : List ℕ} {tokens : List Token} → IsNext text n None → AreTokensFrom (start + n) (drop n text) tokens
      → AreTokensFrom start text tokens
  read : {start n : ℕ} {text : List ℕ} {kind : TokenKind} {tokens : List Token} → IsNext text n (Some kind)
      → AreTokensFrom (start + n) (drop n text) tokens → AreTokensFrom start text (token_at start text n kind ∷ tokens)

-- the tokens of a text
abbrev pub AreTokens : List ℕ → List Token → Type 0
AreTokens text tokens = AreTokensFrom 0 text tokens

-- the bytes of a token
abbrev pub token_text : List ℕ → Token → List ℕ
token_text text token = take token.len (drop token.start text)

-- the tokens lie one after another, none empty, from one place up to another
abbrev pub AreSpansFrom : ℕ → ℕ → List Token → Type 0
AreSpansFrom low high [] = low ≤ high
AreSpansFrom low high (token ∷ tokens) = (low ≤ token.start) × (0 < token.len) × AreSpansFrom (token.start + token.len) high tokens

-- the tokens lie in order inside a text of this length, none empty, none over another
abbrev pub AreSpans : ℕ → List Token → Type 0
AreSpans size tokens = AreSpansFrom 0 size tokens

-- exactly one list of tokens fits the text
pub record HasOneTokenList (text : List ℕ) : Type 0 where
  pub exists : (tokens : List Token) × AreTokens text tokens
  pub unique : (tokens others : List Token) → AreTokens text tokens → AreTokens text others → tokens ≡ others
