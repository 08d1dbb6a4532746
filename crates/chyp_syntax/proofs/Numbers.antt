-- Numbers with `,` between them, and swaps.
use Rattle.std.proofs.Common.{◌≡◌, ℕ, ◌+◌, List, [], ◌∷◌, ◌++◌, None, Some, sym, ◌∙◌, ap, subst}
use Rattle.chyp_lex.specs.declared.token.Token.{Token}
use Rattle.chyp_lex.specs.declared.token.TokenKind.TheVariants.{Number, Comma, WordSw, LeftBracket, RightBracket}
use Rattle.chyp_syntax.specs.Expected.{Expected, next, token, tail, places_left, numbers_left, verdict}
use Rattle.chyp_syntax.specs.Numbered.{NumberedToken, kind_of, value_of}
use Rattle.chyp_syntax.specs.Beginning.{tokens_from, BeginsWithKind, BeginsWithNumber}
use Rattle.chyp_syntax.specs.Reads.{BeginsWith}
use Rattle.chyp_syntax.specs.Sentence.{AreNumbers, one_number, more_numbers, IsSwap, two_places, these_places}
use Rattle.chyp_syntax.specs.Term.{swap}
use Rattle.chyp_syntax.proofs.Numbered.{token_there, number_kind, from-two}
use Rattle.chyp_syntax.proofs.Pieces.{single, closed}
use Rattle.chyp_syntax.proofs.Verdicts.{tail_passes}

-- the tokens are one number
pub data IsNumber : List NumberedToken → ℕ → Type 0 where
  a_value : {number : NumberedToken} → kind_of number ≡ Number → IsNumber (number ∷ []) (value_of number)

pub numbers_one : (a : List NumberedToken) (v : ℕ) → IsNumber a v → AreNumbers a (v ∷ [])
numbers_one _ _ (a_value is) = one_number is

pub numbers_more : (a b : List NumberedToken) (x : NumberedToken) (v : ℕ) (vs : List ℕ) (ms : List ℕ) →
    IsNumber a v → kind_of x ≡ Comma → AreNumbers b vs → AreNumbers (a ++ x ∷ b) (v ∷ vs)
numbers_more _ b x _ vs ms (a_value {number} is) comma are = more_numbers {number = number} {comma = x} is comma are

pub a_number : (tokens : List Token) (at value : ℕ) → BeginsWithNumber value (tokens_from tokens at) → BeginsWith IsNumber (tokens_from tokens at) (tokens_from tokens (at + 1)) value
a_number tokens at value begins =
    let h = token_there tokens at Number (number_kind value (tokens_from tokens at) begins) in
    let x : NumberedToken = (at, h.0) in
    let same : (kind_of x ≡ Number) × (value ≡ value_of x) = subst (BeginsWithNumber value) h.2 begins in
    record { front = x ∷ []; joined = h.2; is = subst (IsNumber (x ∷ [])) (sym same.1) (a_value {number = x} h.3) }

-- ---- swaps

pub is_two_places : (tokens : List Token) (at : ℕ) → BeginsWithKind WordSw (tokens_from tokens at) → BeginsWith IsSwap (tokens_from tokens at) (tokens_from tokens (at + 1)) (swap at None)
is_two_places tokens at begins =
    let h = token_there tokens at WordSw begins in
    let x : NumberedToken = (at, h.0) in
    single IsSwap (tokens_from tokens at) (tokens_from tokens (at + 1)) x (swap at None) h.2 (two_places {word = x} h.3)

pub is_these_places : (tokens : List Token) (at end : ℕ) (values : List ℕ) → BeginsWithKind WordSw (tokens_from tokens at) → BeginsWithKind LeftBracket (tokens_from tokens (at + 1)) →
    BeginsWith AreNumbers (tokens_from tokens (at + 2)) (tokens_from tokens end) values → BeginsWithKind RightBracket (tokens_from tokens end) →
    BeginsWith IsSwap (tokens_from tokens at) (tokens_from tokens (end + 1)) (swap at (Some values))
is_these_places tokens at end values word open' are close =
    let h = token_there tokens at WordSw word in
    let o = token_there tokens (at + 1) LeftBracket open' in
    let c = token_there tokens end RightBracket close in
    let x : NumberedToken = (at, h.0) in
    let y : NumberedToken = (at + 1, o.0) in
    let z : NumberedToken = (end, c.0) in
    record {
      front = x ∷ y ∷ (are.front ++ z ∷ []);
      joined = h.2 ∙ ap (λ ys. x ∷ ys) (o.2 ∙ ap (λ ys. y ∷ ys) (from-two tokens at ∙ closed tokens RightBracket are.front (tokens_from tokens (at + 2)) end are.joined close));
      is = these_places {word = x} {open' = y} z h.3 o.3 are.is c.3;
    }

-- what is expected behind the `[`
pub places_expect : (tokens : List Token) (at : ℕ) (e : Expected) → BeginsWithKind LeftBracket (tokens_from tokens (at + 1)) →
    verdict (next (tail places_left) e) (tokens_from tokens (at + 1)) ≡ verdict (next (token Number) (next (tail numbers_left) (next (token RightBracket) e))) (tokens_from tokens (at + 2))
places_expect tokens at e open' =
    tail_passes tokens (at + 1) places_left e open' ∙ ap (verdict (next (token Number) (next (tail numbers_left) (next (token RightBracket) e)))) (from-two tokens at)
