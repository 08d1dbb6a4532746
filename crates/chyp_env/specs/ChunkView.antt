-- What holds of a statement that is lent.
use Rattle.std.specs.Prelude.{◌≡◌, ℕ, ◌≤◌, List, [], length, All}
use Rattle.std.specs.Str.{IsUtf8}
use Rattle.chyp_lex.specs.declared.token.Token.{Token}
use Rattle.chyp_lex.specs.declared.token.TokenKind.TheVariants.{Ident}
use Rattle.chyp_lex.specs.Names.{IsNameText}
use Rattle.chyp_lex.specs.Tokens.{AreSpans, text_limit, token_text}
use Rattle.chyp_syntax.specs.Words.{Word}

-- the tokens lie in order in a text of one piece that isn't too long, and each identifier is UTF-8 and a name by itself
pub record IsLent (tokens : List Token) (first second : List ℕ) : Type 0 where
  pub spans : AreSpans (length first) tokens
  pub one_piece : second ≡ []
  pub short : length first ≤ text_limit
  pub spelled : All (λ token. token.kind ≡ Ident → IsUtf8 (token_text first token) × IsNameText (token_text first token)) tokens

-- each identifier is UTF-8
abbrev pub AreSpelled : List Word → Type 0
AreSpelled words = All (λ word. word.kind ≡ Ident → IsUtf8 word.bytes) words

-- each identifier is a name by itself
abbrev pub AreNamed : List Word → Type 0
AreNamed words = All (λ word. word.kind ≡ Ident → IsNameText word.bytes) words
