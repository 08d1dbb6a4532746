-- Each text has exactly one list of tokens, and its tokens lie in order inside the text.
use Rattle.std.proofs.Common.{◌≡◌, ℕ, zero, suc, ◌+◌, ◌<◌, ◌≤◌, List, [], ◌∷◌, ◌++◌, length, drop, refl, sym, ap, ◌∙◌, arith, Option, Some, None, length-drop}
use Rattle.std.proofs.lemmas.List.{drop-drop, drop_all}
use Rattle.std.proofs.Common.{append_assoc, append-nil}
use Rattle.std.specs.List.{All}
use Rattle.chyp_lex.specs.declared.token.TokenKind.{TokenKind}
use Rattle.chyp_lex.specs.declared.token.Token.{Token}
use Rattle.chyp_lex.specs.Tokens.{IsNext, token_at, AreTokensFrom, nothing_left, passed_over, read, AreTokens, AreSpansFrom, AreSpans, HasOneTokenList}
use Rattle.chyp_lex.specs.Longest.{next_of}
use Rattle.chyp_lex.proofs.Pieces.{IsNext-next, next-fits, IsNext-is, IsNext-fits, next-is_next}

-- existence

extended : (start n : ℕ) (text : List ℕ) (kind : Option TokenKind) → IsNext text n kind → (tokens : List Token) × AreTokensFrom (start + n) (drop n text) tokens → (tokens : List Token)
    × AreTokensFrom start text tokens
extended start n text None next rest = (rest.0, passed_over next rest.1)
extended start n text (Some kind) next rest = (token_at start text n kind ∷ rest.0, read next rest.1)

tokens_exist : (fuel start : ℕ) (text : List ℕ) → length text ≤ fuel → (tokens : List Token) × AreTokensFrom start text tokens
tokens_exist fuel start [] h = ([], nothing_left)
tokens_exist zero start (b ∷ rest) h = absurd (omega arith)
tokens_exist (suc fuel) start (b ∷ rest) h =
    let text = b ∷ rest in
    let fits = next-fits text (omega arith) in
    let n = (next_of text).0 in
    let shorter : length (drop (next_of (b ∷ rest)).0 (b ∷ rest)) ≤ fuel = simp length-drop (omega (arith, fits.0, fits.1)) in
    extended start n text (next_of text).1 (IsNext-next text (omega arith)) (tokens_exist fuel (start + n) (drop n text) shorter)

-- uniqueness

tokens_after_end : {start : ℕ} {text : List ℕ} {tokens : List Token} → AreTokensFrom start text tokens → text ≡ [] → tokens ≡ []
tokens_after_end nothing_left e = refl
tokens_after_end (passed_over next rest) e = let some = ap length e in let is = (IsNext-is next).nonempty in absurd (omega arith)
tokens_after_end (read next rest) e = let some = ap length e in let is = (IsNext-is next).nonempty in absurd (omega arith)

tokens_after_passed : {start n : ℕ} {text : List ℕ} {tokens : List Token} → AreTokensFrom start text tokens → IsNext text n None → AreTokensFrom (start + n) (drop n text) tokens
tokens_after_passed nothing_left next = let is = (IsNext-is next).nonempty in absurd (omega arith)
tokens_after_passed {n = n} (passed_over {n = m} other rest) next =
    let same : m ≡ n = (IsNext-is other).size ∙ sym (IsNext-is next).size in
    rw same at rest
tokens_after_passed (read other rest) next = let e = (IsNext-is other).kind_is ∙ sym (IsNext-is next).kind_is in cc

tokens_after_read : {start n : ℕ} {text : List ℕ} {kind : TokenKind} {tokens : List Token} → AreTokensFrom start text tokens → IsNext text n (Some kind) → (rest : List Token)
    × (tokens ≡ token_at start text n kind ∷ rest) × AreTokensFrom (start + n) (drop n text) rest
tokens_after_read nothing_left next = let is = (IsNext-is next).nonempty in absurd (omega arith)
tokens_after_read (passed_over other rest) next = let e = (IsNext-is other).kind_is ∙ sym (IsNext-is next).kind_is in cc
tokens_after_read {n = n} {kind = kind} (read {n = m} {kind = found} {tokens = after} other rest) next =
    let same : m ≡ n = (IsNext-is other).size ∙ sym (IsNext-is next).size in
    let e : Some found ≡ Some kind = (IsNext-is other).kind_is ∙ sym (IsNext-is next).kind_is in
    let same_kind : found ≡ kind = cc in
    (after, rw (same, same_kind) refl, rw same at rest)

pub tokens-unique : {start : ℕ} {text : List ℕ} {tokens others : List Token} → AreTokensFrom start text tokens → AreTokensFrom start text others → tokens ≡ others
tokens-unique nothing_left others = sym (tokens_after_end others refl)
tokens-unique (passed_over next rest) others = tokens-unique rest (tokens_after_passed others next)
tokens-unique (read {start} {n} {text} {kind} next rest) others =
    let after = tokens_after_read others next in
    ap (λ ts. token_at start text n kind ∷ ts) (tokens-unique rest after.2) ∙ sym after.1

pub one_token_list : (text : List ℕ) → HasOneTokenList text
one_token_list text = record {
  exists = tokens_exist (length text) 0 text (omega arith);
  unique = λ tokens others these those. tokens-unique these those;
}

-- spans

AreSpansFrom-lower : (low from high : ℕ) (tokens : List Token) → low ≤ from → AreSpansFrom from high tokens → AreSpansFrom low high tokens
AreSpansFrom-lower low from high [] h spans = omega arith
AreSpansFrom-lower low from high (t ∷ ts) h spans = (omega (arith, spans.0), spans.1, spans.2)

AreTokensFrom-spans : {start : ℕ} {text : List ℕ} {tokens : List Token} → AreTokensFrom start text tokens → AreSpansFrom start (start + length text) tokens
AreTokensFrom-spans (nothing_left {start}) = omega arith
AreTokensFrom-spans (passed_over {start} {n} {text} {tokens} next rest) =
    let fits = IsNext-fits next in
    let cut = length-drop n text in
    let end : start + n + length (drop n text) ≡ start + length text = omega (arith, fits.1) in
    AreSpansFrom-lower start (start + n) (start + length text) tokens (omega arith) (rw end at (AreTokensFrom-spans rest))
AreTokensFrom-spans (read {start} {n} {text} {kind} {tokens} next rest) =
    let fits = IsNext-fits next in
    let cut = length-drop n text in
    let end : start + n + length (drop n text) ≡ start + length text = omega (arith, fits.1) in
    (omega arith, fits.0, rw end at (AreTokensFrom-spans rest))

pub AreTokens-spans : (text : List ℕ) (tokens : List Token) → AreTokens text tokens → AreSpans (length text) tokens
AreTokens-spans text tokens these = let end : 0 + length text ≡ length text = omega arith in rw end at (AreTokensFrom-spans these)

-- what is in order up to a place is inside it
pub AreSpansFrom-le : (low high : ℕ) (tokens : List Token) → AreSpansFrom low high tokens → low ≤ high
AreSpansFrom-le low high [] spans = spans
AreSpansFrom-le low high (t ∷ ts) spans = let rest = AreSpansFrom-le (t.start + t.len) high ts spans.2 in omega (arith, spans.0)

pub AreSpansFrom-inside : (low high : ℕ) (tokens : List Token) → AreSpansFrom low high tokens → All (λ t. t.start + t.len ≤ high) tokens
AreSpansFrom-inside low high [] spans k d h = absurd (omega arith)
AreSpansFrom-inside low high (t ∷ ts) spans zero d h = AreSpansFrom-le (t.start + t.len) high ts spans.2
AreSpansFrom-inside low high (t ∷ ts) spans (suc k) d h = AreSpansFrom-inside (t.start + t.len) high ts spans.2 k d (omega arith)

-- the loop: the tokens so far, followed by those of the rest, are those of the whole text

abbrev pub Continues : List ℕ → ℕ → List Token → Type 0
Continues text at tokens = (rest : List Token) → AreTokensFrom at (drop at text) rest → AreTokensFrom 0 text (tokens ++ rest)

drop-rest : (text : List ℕ) (at n : ℕ) (rest : List Token) → AreTokensFrom (at + n) (drop (at + n) text) rest → AreTokensFrom (at + n) (drop n (drop at text)) rest
drop-rest text at n rest these = rw drop-drop these

pub some-left : (text : List ℕ) (at : ℕ) → at < length text → 0 < length (drop at text)
some-left text at h = simp length-drop (omega arith)

pub Continues-passed : (text : List ℕ) (at n : ℕ) (tokens : List Token) → at < length text → next_of (drop at text) ≡ (n, None) → Continues text at tokens → Continues text (at + n) tokens
Continues-passed text at n tokens h is so_far rest these =
    so_far rest (passed_over (next-is_next (drop at text) n None (some-left text at h) is) (drop-rest text at n rest these))

pub Continues-read : (text : List ℕ) (at n : ℕ) (kind : TokenKind) (tokens : List Token) (token : Token) → at < length text → next_of (drop at text) ≡ (n, Some kind)
    → token ≡ token_at at (drop at text) n kind → Continues text at tokens → Continues text (at + n) (tokens ++ token ∷ [])
Continues-read text at n kind tokens token h is token_is so_far rest these =
    rw (append_assoc, token_is) (so_far _ (read (next-is_next (drop at text) n (Some kind) (some-left text at h) is) (drop-rest text at n rest these)))

pub Continues-end : (text : List ℕ) (at : ℕ) (tokens : List Token) → length text ≤ at → Continues text at tokens → AreTokens text tokens
Continues-end text at tokens end so_far =
    let none : drop at text ≡ [] = drop_all at text end in
    let left : AreTokensFrom at (drop at text) [] = rw none nothing_left in
    rw append-nil at (so_far [] left)
