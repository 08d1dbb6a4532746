-- The words of tokens.
use Rattle.std.proofs.Common.{◌≡◌, ℕ, zero, suc, List, [], ◌∷◌, refl}
use Rattle.std.specs.Prelude.{slice_get}
use Rattle.std.specs.Option.{option_map_or}
use Rattle.chyp_lex.specs.declared.token.Token.{Token}
use Rattle.chyp_lex.specs.Tokens.{token_text}
use Rattle.chyp_syntax.specs.Words.{words_of, bytes_at}

-- the bytes of a word are those of its token
pub bytes-there : (text : List ℕ) (tokens : List Token) (number : ℕ) → bytes_at (words_of text tokens) number ≡ option_map_or (token_text text) (slice_get tokens number) []
bytes-there text [] number = refl
bytes-there text (token ∷ tokens) zero = refl
bytes-there text (token ∷ tokens) (suc number) = bytes-there text tokens number
