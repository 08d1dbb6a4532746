-- What the grammar sees of words, numbered from 0.
use Rattle.std.specs.Prelude.{◌≡◌, ℕ, ◌⊎◌, List, map}
use Rattle.std.specs.List.{enumerate_from}
use Rattle.chyp_lex.specs.declared.token.TokenKind.{TokenKind}
use Rattle.chyp_lex.specs.declared.token.TokenKind.TheVariants.{Ident, Dotted}
use Rattle.chyp_syntax.specs.Words.{Word}

-- a terminal symbol of the grammar: the kind of a word, and its value
pub record Terminal : Type 0 where
  pub kind : TokenKind
  pub value : ℕ

-- the terminal symbol that a word is, whatever its bytes
abbrev pub terminal_of : Word → Terminal
terminal_of word = record { kind = word.kind; value = word.value }

-- a terminal symbol with its number
abbrev pub NumberedToken : Type 0
NumberedToken = ℕ × Terminal

-- the terminal symbols of words with their numbers
abbrev pub numbered : List Word → List NumberedToken
numbered words = enumerate_from 0 (map terminal_of words)

-- the kind of a terminal symbol
abbrev pub kind_of : NumberedToken → TokenKind
kind_of at = at.1.kind

-- the value of a number
abbrev pub value_of : NumberedToken → ℕ
value_of at = at.1.value

-- name := Ident | Dotted
abbrev pub IsName : NumberedToken → Type 0
IsName word = (kind_of word ≡ Ident) ⊎ (kind_of word ≡ Dotted)
