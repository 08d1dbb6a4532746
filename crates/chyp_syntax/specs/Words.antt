-- The words of a statement: what its tokens are, wherever they stand in their text.
use Rattle.std.specs.Prelude.{ℕ, List, [], map, Option, option_map, slice_get}
use Rattle.std.specs.Option.{option_map_or}
use Rattle.chyp_lex.specs.declared.token.Token.{Token}
use Rattle.chyp_lex.specs.declared.token.TokenKind.{TokenKind}
use Rattle.chyp_lex.specs.Tokens.{token_text}

-- a word: its kind, its bytes, and the value of a number (0 for every other kind)
pub record Word : Type 0 where
  pub kind : TokenKind
  pub bytes : List ℕ
  pub value : ℕ

-- the word that a token of a text is
abbrev pub word_of : List ℕ → Token → Word
word_of text token = record { kind = token.kind; bytes = token_text text token; value = token.value }

-- the words that tokens of a text are
abbrev pub words_of : List ℕ → List Token → List Word
words_of text tokens = map (word_of text) tokens

-- the kind of the first word
abbrev pub keyword_in : List Word → Option TokenKind
keyword_in words = option_map (λ word. word.kind) (slice_get words 0)

-- the bytes of the word of this number, none where there is no such word
abbrev pub bytes_at : List Word → ℕ → List ℕ
bytes_at words number = option_map_or (λ word. word.bytes) (slice_get words number) []
