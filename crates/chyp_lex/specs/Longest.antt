-- How far the lexemes at the front of a text reach, as the parts of `lex` find them. No public clause cites this.
use Rattle.std.specs.Prelude.{ℕ, zero, suc, ◌+◌, ◌-◌, ◌^◌, ◌==◌, ◌&&◌, nat_lt, Bool, if◌then◌else◌, not, List, [], ◌∷◌, take, drop, slice_index, Option, Some, None, option_map}
use Rattle.std.specs.Char.{is_ascii_digit}
use Rattle.std.specs.List.{prefix_len}
use Rattle.std.specs.Map.{lookup}
use Rattle.std.specs.Str.Parse.{digits_value}
use Rattle.bstr.specs.Utf8.{decoded}
use Rattle.unicode_ident.specs.Ident.{is_xid_continue}
use Rattle.chyp_lex.specs.declared.token.TokenKind.{TokenKind}
use Rattle.chyp_lex.specs.declared.token.TokenKind.TheVariants.{Dotted, Number, Bad, Colon, Arrow, Equals, Semicolon, Star, LeftParenthesis, RightParenthesis, LeftBracket, RightBracket, Comma, Minus, QuestionMark}
use Rattle.chyp_lex.specs.Lexemes.{is_blank, is_line_feed, begins_identifier, kind_of_word}
use Rattle.chyp_lex.specs.Tokens.{size_or_one}

-- a size that counts only where the character passes
abbrev pub size_if : (ℕ → Bool) → Option ℕ → ℕ → ℕ
size_if test None size = 0
size_if test (Some char) size = if test char then size else 0

-- the bytes of the character at the front, or 0 where none that passes is there
unfoldable pub character_len : (ℕ → Bool) → List ℕ → ℕ
character_len test text = size_if test (decoded text).char (decoded text).size

-- after the first `skip` bytes, how far a step reaches that is taken again and again until it gives 0; the skipped bytes count
unfoldable pub repeated_from : (List ℕ → ℕ) → ℕ → List ℕ → ℕ
repeated_from step skip [] = 0
repeated_from step (suc skip) (b ∷ rest) = suc (repeated_from step skip rest)
repeated_from step zero (b ∷ rest) = if step (b ∷ rest) == 0 then 0 else suc (repeated_from step (step (b ∷ rest) - 1) rest)

unfoldable pub repeated : (List ℕ → ℕ) → List ℕ → ℕ
repeated step text = repeated_from step 0 text

-- the bytes of the continuing characters at the front
abbrev pub continuation_len : List ℕ → ℕ
continuation_len = repeated (character_len is_xid_continue)

-- the bytes of the identifier at the front, or 0
unfoldable pub identifier_len : List ℕ → ℕ
identifier_len text =
    let first = character_len begins_identifier text in
    if first == 0 then 0 else first + continuation_len (drop first text)

-- the bytes of `.` and the identifier after it, or 0
unfoldable pub member_len : List ℕ → ℕ
member_len text =
    let n = identifier_len (drop 1 text) in
    if slice_index text 0 == 46 then (if n == 0 then 0 else 1 + n) else 0

abbrev pub members_len : List ℕ → ℕ
members_len = repeated member_len

-- the symbols of one byte
abbrev pub one_byte_symbols : List (ℕ × TokenKind)
one_byte_symbols =
    (58, Colon)
    ∷ (61, Equals)
    ∷ (59, Semicolon)
    ∷ (42, Star)
    ∷ (40, LeftParenthesis)
    ∷ (41, RightParenthesis)
    ∷ (91, LeftBracket)
    ∷ (93, RightBracket)
    ∷ (44, Comma)
    ∷ (45, Minus)
    ∷ (63, QuestionMark)
    ∷ []

-- the symbol that begins with these two bytes: its length and kind
unfoldable pub symbol_of : ℕ → ℕ → Option (ℕ × TokenKind)
symbol_of b c =
    if b == 45 && c == 62 then Some (2, Arrow) else option_map (λ kind. (1, kind)) (lookup (λ symbol. symbol == b) one_byte_symbols)

-- the word at the front, or the dotted name
unfoldable pub name_of : List ℕ → ℕ × Option TokenKind
name_of text =
    let n = identifier_len text in
    let more = members_len (drop n text) in
    if more == 0 then (n, Some (kind_of_word (take n text))) else (n + more, Some Dotted)

-- the digits at the front
unfoldable pub number_of : List ℕ → ℕ × Option TokenKind
number_of text =
    let n = prefix_len is_ascii_digit text in
    (n, Some (if nat_lt (digits_value 10 (take n text)) (2 ^ 64) then Number else Bad))

-- what is left where no lexeme begins
abbrev pub bad_of : List ℕ → ℕ × Option TokenKind
bad_of text = (size_or_one (decoded text).char (decoded text).size, Some Bad)

-- a name, a symbol or a bad piece
abbrev pub symbol_or : Option (ℕ × TokenKind) → ℕ × Option TokenKind → ℕ × Option TokenKind
symbol_or (Some symbol) other = (symbol.0, Some symbol.1)
symbol_or None other = other

-- how many bytes the first piece of a text takes, and the kind of its token
unfoldable pub next_of : List ℕ → ℕ × Option TokenKind
next_of text =
    let first = slice_index text 0 in
    if is_blank first then (prefix_len is_blank text, None)
    else (if first == 35 then (prefix_len (λ b. not (is_line_feed b)) text, None)
    else (if is_ascii_digit first then number_of text
    else symbol_or (symbol_of first (slice_index text 1)) (if identifier_len text == 0 then bad_of text else name_of text)))
