-- The tokens of a text mean what their texts do, by their numbers.
use Rattle.std.proofs.Common.{◌≡◌, ℕ, ◌+◌, List, [], ◌∷◌, ◌++◌, length, slice_get, Some, refl, sym, ap, ◌∙◌, arith, append_assoc, length-append}
use Rattle.std.specs.Option.{option_map_or}
use Rattle.chyp_lex.specs.declared.token.Token.{Token}
use Rattle.chyp_syntax.specs.Words.{Word, bytes_at, word_of, words_of}
use Rattle.chyp_term.specs.Morphism.{Morphism}
use Rattle.chyp_print.proofs.Fronts.{FitFrom}
use Rattle.chyp_print.proofs.Printed.{MeansIn}

word-at : (whole : List ℕ) (before : List Token) (token : Token) (after : List Token) → slice_get (words_of whole (before ++ token ∷ after)) (length before) ≡ Some (word_of whole token)
word-at whole [] token after = refl
word-at whole (first ∷ before) token after = word-at whole before token after

-- each token of a text has its text
pub each-fits : (whole : List ℕ) (meaning : List ℕ → Morphism) (tokens before after : List Token) → tokens ≡ before ++ after → (k : ℕ) → k ≡ length before
    → FitFrom (MeansIn whole meaning (λ token. meaning (bytes_at (words_of whole tokens) token))) k after
each-fits whole meaning tokens before [] e k at = tt
each-fits whole meaning tokens before (token ∷ after) e k at =
    let there : slice_get (words_of whole tokens) k ≡ Some (word_of whole token) = rw (e, at) (word-at whole before token after) in
    let long = length-append before (token ∷ []) in (
      ap (λ o. meaning (option_map_or (λ (word : Word). word.bytes) o [])) there,
      each-fits whole meaning tokens (before ++ token ∷ []) after (e ∙ sym (append_assoc before (token ∷ []) after)) (k + 1) (omega arith),
    )
