-- The lexemes that a text may begin with: blanks, comments, and the tokens that aren't bad by themselves.
use Rattle.std.specs.Prelude.{◌≡◌, ℕ, ◌+◌, ◌<◌, ◌≤◌, ◌^◌, ◌==◌, ◌||◌, Bool, not, IsTrue, List, [], ◌∷◌, ◌++◌, length, take, drop, slice_get, Option, Some, None, unwrap_or, bytes_eq, codes}
use Rattle.std.specs.Char.{is_ascii_digit}
use Rattle.std.specs.List.{AllPass}
use Rattle.std.specs.Map.{lookup}
use Rattle.std.specs.Str.{byte}
use Rattle.std.specs.Str.Parse.{digits_value}
use Rattle.bstr.specs.Utf8.{decoded}
use Rattle.unicode_ident.specs.Ident.{is_xid_start, is_xid_continue}
use Rattle.chyp_lex.specs.declared.token.TokenKind.{TokenKind}
use Rattle.chyp_lex.specs.declared.token.TokenKind.TheVariants.{Ident, Dotted, Number, Bad, Colon, Arrow, Equals, Semicolon, Star, LeftParenthesis, RightParenthesis, LeftBracket, RightBracket, Comma, Minus, QuestionMark, WordGen, WordLet, WordRule, WordRewrite, WordImport, WordShow, WordType, WordId, WordId0, WordSw, WordBy, WordAs, WordSimp, WordWith}

-- the first n bytes of the text, at least one, all pass the test
pub record BeginsWithRun (test : ℕ → Bool) (text : List ℕ) (n : ℕ) : Type 0 where
  pub some : 0 < n
  pub within : n ≤ length text
  pub pass : AllPass test (take n text)

-- the first n bytes of the text are one well-formed UTF-8 character, and it passes the test
pub record BeginsWithCharacter (test : ℕ → Bool) (text : List ℕ) (n : ℕ) : Type 0 where
  pub char : ℕ
  pub decodes : (decoded text).char ≡ Some char
  pub size : (decoded text).size ≡ n
  pub passes : IsTrue (test char)

-- space, tab, CR and LF
abbrev pub is_blank : ℕ → Bool
is_blank b = b == byte " " || b == 9 || b == 13 || b == 10

abbrev pub is_line_feed : ℕ → Bool
is_line_feed b = b == 10

-- an identifier begins with `_` or a character with the Unicode property XID_Start
abbrev pub begins_identifier : ℕ → Bool
begins_identifier c = c == byte "_" || is_xid_start c

-- the first n bytes of the text are such pieces one after another, any number of them
pub data BeginsWithMany (Piece : List ℕ → ℕ → Type 0) : List ℕ → ℕ → Type 0 where
  no_more : {text : List ℕ} → BeginsWithMany Piece text 0
  one_more : {text : List ℕ} {m n : ℕ} → Piece text m → BeginsWithMany Piece (drop m text) n → BeginsWithMany Piece text (m + n)

-- the first n bytes of the text are an identifier: after its first character come those with the property XID_Continue
pub data BeginsWithIdentifier : List ℕ → ℕ → Type 0 where
  identifier : {text : List ℕ} {m n : ℕ} → BeginsWithCharacter begins_identifier text m
      → BeginsWithMany (BeginsWithCharacter is_xid_continue) (drop m text) n → BeginsWithIdentifier text (m + n)

-- the first n bytes of the text are `.` and an identifier
pub data BeginsWithMember : List ℕ → ℕ → Type 0 where
  member : {text : List ℕ} {n : ℕ} → slice_get text 0 ≡ Some (byte ".") → BeginsWithIdentifier (drop 1 text) n
      → BeginsWithMember text (1 + n)

-- the first n bytes of the text are an identifier, followed one or more times by `.` and an identifier
pub data BeginsWithDotted : List ℕ → ℕ → Type 0 where
  dotted_name : {text : List ℕ} {m n : ℕ} → BeginsWithIdentifier text m → 0 < n → BeginsWithMany BeginsWithMember (drop m text) n
      → BeginsWithDotted text (m + n)

-- the first n bytes of the text are the symbol of this kind
pub data BeginsWithSymbol : List ℕ → ℕ → TokenKind → Type 0 where
  colon : {rest : List ℕ} → BeginsWithSymbol (codes ":" ++ rest) 1 Colon
  arrow : {rest : List ℕ} → BeginsWithSymbol (codes "->" ++ rest) 2 Arrow
  equals : {rest : List ℕ} → BeginsWithSymbol (codes "=" ++ rest) 1 Equals
  semicolon : {rest : List ℕ} → BeginsWithSymbol (codes ";" ++ rest) 1 Semicolon
  star : {rest : List ℕ} → BeginsWithSymbol (codes "*" ++ rest) 1 Star
  left_parenthesis : {rest : List ℕ} → BeginsWithSymbol (codes "(" ++ rest) 1 LeftParenthesis
  right_parenthesis : {rest : List ℕ} → BeginsWithSymbol (codes ")" ++ rest) 1 RightParenthesis
  left_bracket : {rest : List ℕ} → BeginsWithSymbol (codes "[" ++ rest) 1 LeftBracket
  right_bracket : {rest : List ℕ} → BeginsWithSymbol (codes "]" ++ rest) 1 RightBracket
  comma : {rest : List ℕ} → BeginsWithSymbol (codes "," ++ rest) 1 Comma
  minus : {rest : List ℕ} → BeginsWithSymbol (codes "-" ++ rest) 1 Minus
  question_mark : {rest : List ℕ} → BeginsWithSymbol (codes "?" ++ rest) 1 QuestionMark

-- each reserved word has a kind of its own
abbrev pub reserved_words : List (List ℕ × TokenKind)
reserved_words =
    (codes "gen", WordGen)
    ∷ (codes "let", WordLet)
    ∷ (codes "rule", WordRule)
    ∷ (codes "rewrite", WordRewrite)
    ∷ (codes "import", WordImport)
    ∷ (codes "show", WordShow)
    ∷ (codes "type", WordType)
    ∷ (codes "id", WordId)
    ∷ (codes "id0", WordId0)
    ∷ (codes "sw", WordSw)
    ∷ (codes "by", WordBy)
    ∷ (codes "as", WordAs)
    ∷ (codes "simp", WordSimp)
    ∷ (codes "with", WordWith)
    ∷ []

-- an identifier without dots is a reserved word's token where it equals the word
abbrev pub kind_of_word : List ℕ → TokenKind
kind_of_word name = unwrap_or (lookup (bytes_eq name) reserved_words) Ident

-- the first n bytes of the text are a lexeme: a token of a kind, or blanks or a comment, which are no token
pub data BeginsWith : List ℕ → ℕ → Option TokenKind → Type 0 where
  blanks : {text : List ℕ} {n : ℕ} → BeginsWithRun is_blank text n → BeginsWith text n None
  comment : {text : List ℕ} {n : ℕ} → slice_get text 0 ≡ Some (byte "#") → BeginsWithRun (λ b. not (is_line_feed b)) text n
      → BeginsWith text n None
  word : {text : List ℕ} {n : ℕ} → BeginsWithIdentifier text n → BeginsWith text n (Some (kind_of_word (take n text)))
  dotted : {text : List ℕ} {n : ℕ} → BeginsWithDotted text n → BeginsWith text n (Some Dotted)
  number : {text : List ℕ} {n : ℕ} → BeginsWithRun is_ascii_digit text n → digits_value 10 (take n text) < 2 ^ 64
      → BeginsWith text n (Some Number)
  too_large : {text : List ℕ} {n : ℕ} → BeginsWithRun is_ascii_digit text n → 2 ^ 64 ≤ digits_value 10 (take n text)
      → BeginsWith text n (Some Bad)
  symbol : {text : List ℕ} {n : ℕ} {kind : TokenKind} → BeginsWithSymbol text n kind → BeginsWith text n (Some kind)
