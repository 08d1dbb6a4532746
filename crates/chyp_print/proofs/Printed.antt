-- The tokens of a printed term spell the term.
use Rattle.std.proofs.Common.{◌≡◌, ℕ, zero, suc, ◌+◌, ◌<◌, ◌^◌, Bool, true, false, List, [], ◌∷◌, ◌++◌, length, drop, take, slice_index, All, inl, inr, refl, sym, ap, subst, ◌∙◌, arith, append_assoc, Some}
use Rattle.std.specs.Prelude.{codes, decimal}
use Rattle.std.proofs.lemmas.List.{drop-drop}
use Rattle.std.proofs.lemmas.Fmt.{decimal_is_IsNumeral}
use Rattle.std.proofs.Math.Seq.{drop-append_seam, take-append_seam}
use Rattle.std.specs.Str.Parse.{digits_value}
use Rattle.unicode_ident.specs.Ident.{is_xid_continue}
use Rattle.unicode_ident.proofs.IdentLemmas.{is_xid_continue-ascii, is_xid_start-ascii}
use Rattle.bstr.specs.Utf8.{Decoded}
use Rattle.chyp_lex.specs.declared.token.TokenKind.TheVariants.{Comma, Dotted, Ident, LeftBracket, Number, RightBracket, Semicolon, Star, WordSw}
use Rattle.chyp_lex.specs.Lexemes.{BeginsWithCharacter, BeginsWithDotted, BeginsWithIdentifier, begins_identifier, dotted_name, identifier, is_blank, kind_of_word, no_more, one_more}
use Rattle.chyp_lex.specs.Longest.{next_of, symbol_of}
use Rattle.chyp_lex.specs.Tokens.{token_text}
use Rattle.chyp_lex.proofs.Names.{IsNameByte, Identifier-reaches, decoded-ascii}
use Rattle.chyp_lex.proofs.Pieces.{name-byte-otherwise}
use Rattle.chyp_syntax.specs.Numbered.{NumberedToken, kind_of, value_of}
use Rattle.chyp_syntax.specs.Sentence.{AreNumbers, more_numbers, one_number}
use Rattle.chyp_term.specs.Morphism.{Morphism, beside, generator, permutation, then}
use Rattle.chyp_lex.specs.Names.{IsNameText}
use Rattle.chyp_print.specs.Printing.{Naming, permutation_text, printed_in, with_commas}
use Rattle.chyp_lex.proofs.Extending.{dotted-more, identifier-more}
use Rattle.chyp_print.proofs.Lexing.{Ends, blank-ends, comma-ends, dotted-next, left_bracket-ends, number-next, parenthesis-ends, right_bracket-ends, word-next}
use Rattle.chyp_print.specs.Reading.{IsNamed}
use Rattle.chyp_lex.specs.declared.token.Token.{Token}
use Rattle.chyp_print.proofs.Spelling.{IsNameOf, AreJoined, Both, IsOfKind, IsSwapWith, IsWord, Spell, SpellPlaces}
use Rattle.chyp_print.proofs.Fronts.{Lexed, both, enclosed, joined, of_kind, one, symbol, weakened}

-- ASCII words

ascii : (test : ℕ → Bool) (b : ℕ) (text : List ℕ) → b < 128 → test b ≡ true → BeginsWithCharacter test (b ∷ text) 1
ascii test b text low passes =
    let is = decoded-ascii (b ∷ text) (omega arith) low in
    record { char = b; decodes = ap (λ (d : Decoded). d.char) is; size = ap (λ (d : Decoded). d.size) is; passes = passes }

id-word : BeginsWithIdentifier (codes "id") 2
id-word =
    identifier (ascii begins_identifier 105 (100 ∷ []) (omega arith) (is_xid_start-ascii 105 (omega arith)))
    (one_more (ascii is_xid_continue 100 [] (omega arith) (is_xid_continue-ascii 100 (omega arith))) no_more)

id0-word : BeginsWithIdentifier (codes "id0") 3
id0-word =
    identifier (ascii begins_identifier 105 (100 ∷ 48 ∷ []) (omega arith) (is_xid_start-ascii 105 (omega arith)))
    (one_more (ascii is_xid_continue 100 (48 ∷ []) (omega arith) (is_xid_continue-ascii 100 (omega arith)))
    (one_more (ascii is_xid_continue 48 [] (omega arith) (is_xid_continue-ascii 48 (omega arith))) no_more))

sw-word : BeginsWithIdentifier (codes "sw") 2
sw-word =
    identifier (ascii begins_identifier 115 (119 ∷ []) (omega arith) (is_xid_start-ascii 115 (omega arith)))
    (one_more (ascii is_xid_continue 119 [] (omega arith) (is_xid_continue-ascii 119 (omega arith))) no_more)

-- numbers

abbrev IsNumber : ℕ → NumberedToken → Type 0
IsNumber n word = (kind_of word ≡ Number) × (value_of word ≡ n)

one-number : (n : ℕ) (tokens : List NumberedToken) → IsWord (IsNumber n) tokens → AreNumbers tokens (n ∷ [])
one-number n tokens w = rw (w.all, ← w.is.1) (one_number w.is.0)

more-numbers : (n : ℕ) (places : List ℕ) (tokens : List NumberedToken) → Both (IsWord (IsNumber n)) (Both (IsOfKind Comma) (λ numbers. AreNumbers numbers places)) tokens
    → AreNumbers tokens (n ∷ places)
more-numbers n places tokens b =
    let w = b.first in
    let c = b.second.first in
    let split : tokens ≡ w.word ∷ c.word ∷ b.second.rear = rw (b.all, w.all, b.second.all, c.all) refl in
    rw (split, ← w.is.1) (more_numbers w.is.0 c.is b.second.second)

module _ (Fits : ℕ → Token → Type 0) where
  word : (start : ℕ) (text rest : List ℕ) → BeginsWithIdentifier text (length text) → 0 < length text → Ends rest → Lexed Fits (IsOfKind (kind_of_word text)) start text rest
  word start text rest is some e = of_kind Fits start text rest (kind_of_word text) (word-next text rest is e) some

  number : (start n : ℕ) (rest : List ℕ) → n < 2 ^ 64 → Ends rest → Lexed Fits (IsWord (IsNumber n)) start (decimal n) rest
  number start n rest small e =
      let numeral = decimal_is_IsNumeral n small in
      one Fits (IsNumber n) start (decimal n) rest Number (number-next n rest small e) numeral.0.0
      (λ k fit. (refl, ap (digits_value 10) (take-append_seam (decimal n) rest) ∙ numeral.1))

  numbers : (start place : ℕ) (places rest : List ℕ) → All (λ k. k < 2 ^ 64) (place ∷ places) → Ends rest
      → Lexed Fits (λ tokens. AreNumbers tokens (place ∷ places)) start (with_commas (place ∷ places)) rest
  unfolding symbol_of
  numbers start place [] rest small e =
      weakened Fits (IsWord (IsNumber place)) (λ tokens. AreNumbers tokens (place ∷ [])) start (decimal place) rest (one-number place)
      (number start place rest (small 0 0 (omega arith)) e)
  numbers start place (next ∷ places) rest small e =
      let comma : List ℕ = 44 ∷ [] in
      let others = with_commas (next ∷ places) in
      let at = start + length (decimal place) in
      weakened Fits (Both (IsWord (IsNumber place)) (Both (IsOfKind Comma) (λ tokens. AreNumbers tokens (next ∷ places)))) (λ tokens. AreNumbers tokens (place ∷ next ∷ places))
      start (decimal place ++ 44 ∷ others) rest
      (more-numbers place (next ∷ places))
      (both Fits (IsWord (IsNumber place)) (Both (IsOfKind Comma) (λ tokens. AreNumbers tokens (next ∷ places))) start (decimal place) (44 ∷ others) rest
      (number start place (44 ∷ (others ++ rest)) (small 0 0 (omega arith)) comma-ends)
      (both Fits (IsOfKind Comma) (λ tokens. AreNumbers tokens (next ∷ places)) at (44 ∷ []) others rest (symbol Fits at 44 (others ++ rest) Comma refl)
      (numbers (at + length comma) next places rest (λ k d h. small (suc k) d (omega arith)) e)))

  swap-with : (start place : ℕ) (places rest : List ℕ) → All (λ k. k < 2 ^ 64) (place ∷ places) → Ends rest
      → Lexed Fits (IsSwapWith (place ∷ places)) start (codes "sw[" ++ (with_commas (place ∷ places) ++ codes "]")) rest
  unfolding symbol_of
  swap-with start place places rest small e =
      let inside = with_commas (place ∷ places) in
      let open' : List ℕ = 91 ∷ [] in
      let Numbers : List NumberedToken → Type 0 = λ tokens. AreNumbers tokens (place ∷ places) in
      both Fits (IsOfKind WordSw) (Both (IsOfKind LeftBracket) (Both Numbers (IsOfKind RightBracket))) start (codes "sw") (91 ∷ (inside ++ 93 ∷ [])) rest
      (word start (codes "sw") (91 ∷ ((inside ++ 93 ∷ []) ++ rest)) sw-word (omega arith) left_bracket-ends)
      (both Fits (IsOfKind LeftBracket) (Both Numbers (IsOfKind RightBracket)) (start + 2) (91 ∷ []) (inside ++ 93 ∷ []) rest
      (symbol Fits (start + 2) 91 ((inside ++ 93 ∷ []) ++ rest) LeftBracket refl)
      (both Fits Numbers (IsOfKind RightBracket) (start + 2 + length open') inside (93 ∷ []) rest (numbers (start + 2 + length open') place places (93 ∷ rest) small right_bracket-ends)
      (symbol Fits (start + 2 + length open' + length inside) 93 rest RightBracket refl)))

  places-lexed : (start : ℕ) (p rest : List ℕ) → All (λ k. k < 2 ^ 64) p → Ends rest → Lexed Fits (SpellPlaces p) start (permutation_text p) rest
  places-lexed start [] rest small e = word start (codes "id0") rest id0-word (omega arith) e
  places-lexed start (zero ∷ []) rest small e = word start (codes "id") rest id-word (omega arith) e
  places-lexed start (suc zero ∷ []) rest small e = swap-with start 1 [] rest small e
  places-lexed start (suc (suc k) ∷ []) rest small e = swap-with start (suc (suc k)) [] rest small e
  places-lexed start (zero ∷ q ∷ ps) rest small e = swap-with start zero (q ∷ ps) rest small e
  places-lexed start (suc zero ∷ zero ∷ []) rest small e = word start (codes "sw") rest sw-word (omega arith) e
  places-lexed start (suc zero ∷ zero ∷ q ∷ ps) rest small e = swap-with start 1 (zero ∷ q ∷ ps) rest small e
  places-lexed start (suc zero ∷ suc k ∷ ps) rest small e = swap-with start 1 (suc k ∷ ps) rest small e
  places-lexed start (suc (suc k) ∷ q ∷ ps) rest small e = swap-with start (suc (suc k)) (q ∷ ps) rest small e

places-clear : (p rest : List ℕ) → is_blank (slice_index (permutation_text p ++ rest) 0) ≡ false
places-clear [] rest = refl
places-clear (zero ∷ []) rest = refl
places-clear (suc zero ∷ []) rest = refl
places-clear (suc (suc k) ∷ []) rest = refl
places-clear (zero ∷ q ∷ ps) rest = refl
places-clear (suc zero ∷ zero ∷ []) rest = refl
places-clear (suc zero ∷ zero ∷ q ∷ ps) rest = refl
places-clear (suc zero ∷ suc k ∷ ps) rest = refl
places-clear (suc (suc k) ∷ q ∷ ps) rest = refl

-- names

name-byte : {text : List ℕ} {n : ℕ} → BeginsWithDotted text n → IsNameByte (slice_index text 0)
name-byte (dotted_name first some others) = (Identifier-reaches first).starts

name-starts : (name rest : List ℕ) → IsNameText name → IsNameByte (slice_index (name ++ rest) 0)
name-starts name rest (inl h) = (Identifier-reaches (identifier-more rest name (length name) h.0)).starts
name-starts name rest (inr h) = name-byte (dotted-more rest name (length name) h)

name-clear : (name rest : List ℕ) → IsNameText name → is_blank (slice_index (name ++ rest) 0) ≡ false
name-clear name rest h = (name-byte-otherwise (slice_index (name ++ rest) 0) 0 (name-starts name rest h)).no_blank

dotted-some : {text : List ℕ} {n : ℕ} → BeginsWithDotted text n → 0 < n
dotted-some (dotted_name first some others) = omega arith

-- the text of each generator is a name, and places are numbers that can be read
abbrev pub AreReadable : Naming → Morphism → Type 0
AreReadable naming (generator n a b) = IsNameText (naming n a b)
AreReadable naming (permutation a p) = All (λ k. k < 2 ^ 64) p
AreReadable naming (then s t) = AreReadable naming s × AreReadable naming t
AreReadable naming (beside s t) = AreReadable naming s × AreReadable naming t

module _ (naming : Naming) where
  clear : (in_tensor : Bool) (t : Morphism) (rest : List ℕ) → AreReadable naming t → is_blank (slice_index (printed_in naming in_tensor t ++ rest) 0) ≡ false
  clear in_tensor (generator n a b) rest h = name-clear (naming n a b) rest h
  clear in_tensor (permutation a p) rest h = places-clear p rest
  clear true (then s t) rest h = refl
  clear false (then s t) rest h =
      let others = codes " ; " ++ printed_in naming false t in
      subst (λ text. is_blank (slice_index text 0) ≡ false) (sym (append_assoc (printed_in naming false s) others rest)) (clear false s (others ++ rest) h.0)
  clear in_tensor (beside s t) rest h =
      let others = codes " * " ++ printed_in naming true t in
      subst (λ text. is_blank (slice_index text 0) ≡ false) (sym (append_assoc (printed_in naming true s) others rest)) (clear true s (others ++ rest) h.0)

-- where the text goes on behind a piece
behind : (whole : List ℕ) (start : ℕ) (piece rest : List ℕ) → drop start whole ≡ piece ++ rest → drop (start + length piece) whole ≡ rest
behind whole start piece rest at = sym (drop-drop (length piece) start whole) ∙ ap (drop (length piece)) at ∙ drop-append_seam piece rest

behind-symbol : (whole : List ℕ) (start c : ℕ) (piece next rest : List ℕ) → drop start whole ≡ (piece ++ 32 ∷ c ∷ 32 ∷ next) ++ rest → drop (start + length piece + 3) whole ≡ next ++ rest
behind-symbol whole start c piece next rest at =
    let first : drop start whole ≡ piece ++ (32 ∷ c ∷ 32 ∷ (next ++ rest)) = at ∙ append_assoc piece (32 ∷ c ∷ 32 ∷ next) rest in
    behind whole (start + length piece) (32 ∷ c ∷ 32 ∷ []) (next ++ rest) (behind whole start piece (32 ∷ c ∷ 32 ∷ (next ++ rest)) first)

-- the token means what its text does, by its number
abbrev pub MeansIn : List ℕ → (List ℕ → Morphism) → (ℕ → Morphism) → ℕ → Token → Type 0
MeansIn whole meaning means k token = means k ≡ meaning (token_text whole token)

module _ (whole : List ℕ) (meaning : List ℕ → Morphism) (means : ℕ → Morphism) where
  abbrev Fits : ℕ → Token → Type 0
  Fits = MeansIn whole meaning means

  name-lexed : (t : Morphism) (start : ℕ) (name rest : List ℕ) → IsNameText name → meaning name ≡ t → Ends rest → drop start whole ≡ name ++ rest
      → Lexed Fits (IsWord (IsNameOf means t)) start name rest
  name-lexed t start name rest h is e at =
      let bytes : take (length name) (drop start whole) ≡ name = ap (take (length name)) at ∙ take-append_seam name rest in
      let same : meaning (take (length name) (drop start whole)) ≡ t = ap meaning bytes ∙ is in
      elim h [
        | inl w ↦
            let next : next_of (name ++ rest) ≡ (length name, Some Ident) = word-next name rest w.0 e ∙ ap (λ kind. (length name, Some kind)) w.1 in
            one Fits (IsNameOf means t) start name rest Ident next (Identifier-reaches w.0).some (λ k fit. (inl refl, fit ∙ same))
        | inr w ↦
            one Fits (IsNameOf means t) start name rest Dotted (dotted-next name rest w e) (dotted-some w) (λ k fit. (inr refl, fit ∙ same))
      ]

  module _ (naming : Naming) where
    composed : (s t : Morphism) (start : ℕ) (rest : List ℕ) → AreReadable naming t
        → Lexed Fits (Spell means false s) start (printed_in naming false s) (32 ∷ 59 ∷ 32 ∷ (printed_in naming false t ++ rest))
        → Lexed Fits (Spell means false t) (start + length (printed_in naming false s) + 3) (printed_in naming false t) rest
        → Lexed Fits (AreJoined Semicolon (Spell means false s) (Spell means false t)) start (printed_in naming false (then s t)) rest
    unfolding symbol_of
    composed s t start rest h first second =
        joined Fits (Spell means false s) (Spell means false t) Semicolon 59 start (printed_in naming false s) (printed_in naming false t) rest refl refl (clear naming false t rest h) first second

    tensored : (s t : Morphism) (start : ℕ) (rest : List ℕ) → AreReadable naming t
        → Lexed Fits (Spell means true s) start (printed_in naming true s) (32 ∷ 42 ∷ 32 ∷ (printed_in naming true t ++ rest))
        → Lexed Fits (Spell means true t) (start + length (printed_in naming true s) + 3) (printed_in naming true t) rest
        → Lexed Fits (AreJoined Star (Spell means true s) (Spell means true t)) start (printed_in naming true (beside s t)) rest
    unfolding symbol_of
    tensored s t start rest h first second =
        joined Fits (Spell means true s) (Spell means true t) Star 42 start (printed_in naming true s) (printed_in naming true t) rest refl refl (clear naming true t rest h) first second

    pub lexed : (in_tensor : Bool) (t : Morphism) (start : ℕ) (rest : List ℕ) → AreReadable naming t → IsNamed naming meaning t → Ends rest → drop start whole ≡ printed_in naming in_tensor t ++ rest
        → Lexed Fits (Spell means in_tensor t) start (printed_in naming in_tensor t) rest
    lexed in_tensor (generator n a b) start rest h named e at = name-lexed (generator n a b) start (naming n a b) rest h named.1 e at
    lexed in_tensor (permutation a p) start rest h named e at = places-lexed Fits start p rest h e
    lexed false (then s t) start rest h named e at =
        let first = printed_in naming false s in
        let second = printed_in naming false t in
        composed s t start rest h.1
        (lexed false s start (32 ∷ 59 ∷ 32 ∷ (second ++ rest)) h.0 named.0 blank-ends (at ∙ append_assoc first (32 ∷ 59 ∷ 32 ∷ second) rest))
        (lexed false t (start + length first + 3) rest h.1 named.1 e (behind-symbol whole start 59 first second rest at))
    lexed true (then s t) start rest h named e at =
        let first = printed_in naming false s in
        let second = printed_in naming false t in
        let inside = first ++ 32 ∷ 59 ∷ 32 ∷ second in
        let inner : drop (start + 1) whole ≡ inside ++ (41 ∷ rest) = behind whole start (40 ∷ []) ((inside ++ 41 ∷ []) ++ rest) at ∙ append_assoc inside (41 ∷ []) rest in
        enclosed Fits (AreJoined Semicolon (Spell means false s) (Spell means false t)) start inside rest
        (composed s t (start + 1) (41 ∷ rest) h.1
        (lexed false s (start + 1) (32 ∷ 59 ∷ 32 ∷ (second ++ 41 ∷ rest)) h.0 named.0 blank-ends (inner ∙ append_assoc first (32 ∷ 59 ∷ 32 ∷ second) (41 ∷ rest)))
        (lexed false t (start + 1 + length first + 3) (41 ∷ rest) h.1 named.1 parenthesis-ends (behind-symbol whole (start + 1) 59 first second (41 ∷ rest) inner)))
    lexed in_tensor (beside s t) start rest h named e at =
        let first = printed_in naming true s in
        let second = printed_in naming true t in
        tensored s t start rest h.1
        (lexed true s start (32 ∷ 42 ∷ 32 ∷ (second ++ rest)) h.0 named.0 blank-ends (at ∙ append_assoc first (32 ∷ 42 ∷ 32 ∷ second) rest))
        (lexed true t (start + length first + 3) rest h.1 named.1 e (behind-symbol whole start 42 first second rest at))
