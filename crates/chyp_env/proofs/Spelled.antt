-- Identifiers of a text are UTF-8, and names by themselves.
use Rattle.std.proofs.Common.{◌≡◌, ℕ, List, All, ap}
use Rattle.std.specs.Str.{IsUtf8}
use Rattle.chyp_lex.specs.declared.token.Token.{Token}
use Rattle.chyp_lex.specs.declared.token.TokenKind.TheVariants.{Ident}
use Rattle.chyp_lex.specs.Names.{IsNameText, is_name}
use Rattle.chyp_lex.specs.Tokens.{AreTokens, token_text}
use Rattle.chyp_lex.proofs.TextOfNames.{names_are_text}

-- the identifiers among the tokens of a text are UTF-8, and names by themselves
pub spelled : (text : List ℕ) (tokens : List Token) → AreTokens text tokens
    → All (λ token. token.kind ≡ Ident → IsUtf8 (token_text text token) × IsNameText (token_text text token)) tokens
spelled text tokens are = λ k d h is. names_are_text text tokens are k d h (ap is_name is)
