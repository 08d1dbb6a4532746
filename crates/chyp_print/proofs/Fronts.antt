-- Tokens at the front of a text, put together from those of its pieces.
use Rattle.std.proofs.Common.{◌≡◌, ℕ, suc, ◌+◌, ◌<◌, false, List, [], ◌∷◌, ◌++◌, length, map, slice_index, Some, None, refl, sym, ap, subst, ◌∙◌, arith, append_assoc, length-append}
use Rattle.std.specs.List.{enumerate_from, prefix_len}
use Rattle.std.proofs.lemmas.Bool.{cond-false, cond-true}
use Rattle.std.proofs.Math.Seq.{drop-append_seam}
use Rattle.chyp_lex.specs.declared.token.Token.{Token}
use Rattle.chyp_lex.specs.declared.token.TokenKind.{TokenKind}
use Rattle.chyp_lex.specs.Lexemes.{is_blank}
use Rattle.chyp_lex.specs.Longest.{next_of, symbol_of}
use Rattle.chyp_lex.specs.Tokens.{AreTokensFrom, passed_over, read, token_at}
use Rattle.chyp_lex.proofs.Pieces.{next-blanks, next-is_next, next-is_symbol}
use Rattle.chyp_syntax.specs.Numbered.{NumberedToken, Terminal, kind_of}
use Rattle.chyp_lex.specs.declared.token.TokenKind.TheVariants.{LeftParenthesis, RightParenthesis}
use Rattle.chyp_print.proofs.Spelling.{AreEnclosed, AreJoined, Both, IsOfKind, IsWord}

-- what the grammar sees of a token
abbrev pub terminal : Token → Terminal
terminal token = record { kind = token.kind; value = token.value }

-- of tokens, numbered from k on
abbrev pub terminals_from : ℕ → List Token → List NumberedToken
terminals_from k tokens = enumerate_from k (map terminal tokens)

-- tokens fit the numbers from k on
abbrev pub FitFrom : (ℕ → Token → Type 0) → ℕ → List Token → Type 0
FitFrom Fits k [] = Unit {0}
FitFrom Fits k (token ∷ tokens) = Fits k token × FitFrom Fits (k + 1) tokens

fit-front : (Fits : ℕ → Token → Type 0) (k : ℕ) (xs ys : List Token) → FitFrom Fits k (xs ++ ys) → FitFrom Fits k xs
fit-front Fits k [] ys h = tt
fit-front Fits k (x ∷ xs) ys h = (h.0, fit-front Fits (k + 1) xs ys h.1)

fit-rear : (Fits : ℕ → Token → Type 0) (k : ℕ) (xs ys : List Token) → FitFrom Fits k (xs ++ ys) → FitFrom Fits (k + length xs) ys
fit-rear Fits k [] ys h = let at : k ≡ k + 0 = omega arith in subst (λ n. FitFrom Fits n ys) at h
fit-rear Fits k (x ∷ xs) ys h =
    let at : k + 1 + length xs ≡ k + suc (length xs) = omega arith in
    subst (λ n. FitFrom Fits n ys) at (fit-rear Fits (k + 1) xs ys h.1)

-- these tokens stand at the front of the text, whatever the rest of it gives
pub record Lexed (Fits : ℕ → Token → Type 0) (Says : List NumberedToken → Type 0) (start : ℕ) (piece rest : List ℕ) : Type 0 where
  pub front : List Token
  pub says : (k : ℕ) → FitFrom Fits k front → Says (terminals_from k front)
  pub are : (tokens : List Token) → AreTokensFrom (start + length piece) rest tokens → AreTokensFrom start (piece ++ rest) (front ++ tokens)

pub terminals-append : (k : ℕ) (xs ys : List Token) → terminals_from k (xs ++ ys) ≡ terminals_from k xs ++ terminals_from (k + length xs) ys
terminals-append k [] ys = let at : k + 0 ≡ k = omega arith in rw at refl
terminals-append k (x ∷ xs) ys =
    let at : k + 1 + length xs ≡ k + suc (length xs) = omega arith in
    let inner = terminals-append (k + 1) xs ys in
    ap (λ l. (k, terminal x) ∷ l) (inner ∙ ap (λ n. terminals_from (k + 1) xs ++ terminals_from n ys) at)

no-run : (text : List ℕ) → is_blank (slice_index text 0) ≡ false → prefix_len is_blank text ≡ 0
no-run [] h = refl
no-run (b ∷ text) h = cond-false _ _ _ h

module _ (Fits : ℕ → Token → Type 0) where
  module _ (Says : List NumberedToken → Type 0) where
    pub moved : (start at : ℕ) (piece rest : List ℕ) → start ≡ at → Lexed Fits Says start piece rest → Lexed Fits Says at piece rest
    moved start at piece rest e l = subst (λ n. Lexed Fits Says n piece rest) e l

    pub weakened : (More : List NumberedToken → Type 0) (start : ℕ) (piece rest : List ℕ) → ((tokens : List NumberedToken) → Says tokens → More tokens)
        → Lexed Fits Says start piece rest → Lexed Fits More start piece rest
    weakened More start piece rest f l = record { front = l.front; says = λ k m. f (terminals_from k l.front) (l.says k m); are = l.are }

    -- a blank in front of them
    pub behind-blank : (start : ℕ) (piece rest : List ℕ) → is_blank (slice_index (piece ++ rest) 0) ≡ false → Lexed Fits Says (start + 1) piece rest → Lexed Fits Says start (32 ∷ piece) rest
    behind-blank start piece rest no_blank l = record {
      front = l.front;
      says = l.says;
      are = λ tokens these.
          let text = 32 ∷ (piece ++ rest) in
          let at : start + length (32 ∷ piece) ≡ start + 1 + length piece = omega arith in
          let one : prefix_len is_blank (piece ++ rest) ≡ 0 = no-run (piece ++ rest) no_blank in
          let run : prefix_len is_blank (32 ∷ (piece ++ rest)) ≡ 1 = cond-true (is_blank 32) (1 + prefix_len is_blank (piece ++ rest)) 0 refl ∙ ap (λ n. 1 + n) one in
          let next : next_of (32 ∷ (piece ++ rest)) ≡ (1, None) = next-blanks text refl ∙ ap (λ n. (n, None)) run in
          passed_over (next-is_next text 1 None (omega arith) next) (l.are tokens (subst (λ n. AreTokensFrom n rest tokens) at these));
    }

  -- one token
  pub one : (Is : NumberedToken → Type 0) (start : ℕ) (word rest : List ℕ) (kind : TokenKind) → next_of (word ++ rest) ≡ (length word, Some kind) → 0 < length word
      → ((k : ℕ) → Fits k (token_at start (word ++ rest) (length word) kind) → Is (k, terminal (token_at start (word ++ rest) (length word) kind))) → Lexed Fits (IsWord Is) start word rest
  one Is start word rest kind next some says = record {
    front = token_at start (word ++ rest) (length word) kind ∷ [];
    says = λ k fit. record { word = (k, terminal (token_at start (word ++ rest) (length word) kind)); is = says k fit.0; all = refl };
    are = λ tokens these.
        let long = length-append word rest in
        read (next-is_next (word ++ rest) (length word) (Some kind) (omega arith) next) (subst (λ t. AreTokensFrom (start + length word) t tokens) (sym (drop-append_seam word rest)) these);
  }

  -- one token of a kind
  pub of_kind : (start : ℕ) (word rest : List ℕ) (kind : TokenKind) → next_of (word ++ rest) ≡ (length word, Some kind) → 0 < length word → Lexed Fits (IsOfKind kind) start word rest
  of_kind start word rest kind next some = one (λ word. kind_of word ≡ kind) start word rest kind next some (λ k fit. refl)

  -- a symbol of one byte
  pub symbol : (start b : ℕ) (rest : List ℕ) (kind : TokenKind) → symbol_of b (slice_index (b ∷ rest) 1) ≡ Some (1, kind) → Lexed Fits (IsOfKind kind) start (b ∷ []) rest
  symbol start b rest kind is = of_kind start (b ∷ []) rest kind (next-is_symbol (b ∷ rest) (1, kind) (omega arith) is) (omega arith)

  -- one piece behind another
  pub both : (First Second : List NumberedToken → Type 0) (start : ℕ) (piece next rest : List ℕ) → Lexed Fits First start piece (next ++ rest) → Lexed Fits Second (start + length piece) next rest
      → Lexed Fits (Both First Second) start (piece ++ next) rest
  both First Second start piece next rest f s = record {
    front = f.front ++ s.front;
    says = λ k fit. record {
      front = terminals_from k f.front;
      rear = terminals_from (k + length f.front) s.front;
      first = f.says k (fit-front Fits k f.front s.front fit);
      second = s.says (k + length f.front) (fit-rear Fits k f.front s.front fit);
      all = terminals-append k f.front s.front;
    };
    are = λ tokens these.
        let long = length-append piece next in
        let at : start + length (piece ++ next) ≡ start + length piece + length next = omega arith in
        let inner = f.are (s.front ++ tokens) (s.are tokens (subst (λ n. AreTokensFrom n rest tokens) at these)) in
        subst (λ t. AreTokensFrom start t ((f.front ++ s.front) ++ tokens)) (sym (append_assoc piece next rest))
        (subst (AreTokensFrom start (piece ++ (next ++ rest))) (sym (append_assoc f.front s.front tokens)) inner);
  }

  -- two pieces with a symbol between them, and a blank on each side of it
  pub joined : (First Second : List NumberedToken → Type 0) (kind : TokenKind) (c start : ℕ) (piece next rest : List ℕ) → symbol_of c 32 ≡ Some (1, kind) → is_blank c ≡ false
      → is_blank (slice_index (next ++ rest) 0) ≡ false → Lexed Fits First start piece (32 ∷ c ∷ 32 ∷ (next ++ rest)) → Lexed Fits Second (start + length piece + 3) next rest
      → Lexed Fits (AreJoined kind First Second) start (piece ++ 32 ∷ c ∷ 32 ∷ next) rest
  joined First Second kind c start piece next rest is no_blank clear f s =
      let at = start + length piece in
      let place : at + 3 ≡ at + 1 + length (c ∷ []) + 1 = omega arith in
      both First (Both (IsOfKind kind) Second) start piece (32 ∷ c ∷ 32 ∷ next) rest f
      (behind-blank (Both (IsOfKind kind) Second) at (c ∷ 32 ∷ next) rest no_blank
      (both (IsOfKind kind) Second (at + 1) (c ∷ []) (32 ∷ next) rest (symbol (at + 1) c (32 ∷ (next ++ rest)) kind is)
      (behind-blank Second (at + 1 + length (c ∷ [])) next rest clear (moved Second (at + 3) (at + 1 + length (c ∷ []) + 1) next rest place s))))

  -- a piece in parentheses
  pub enclosed : (Inner : List NumberedToken → Type 0) (start : ℕ) (piece rest : List ℕ) → Lexed Fits Inner (start + 1) piece (41 ∷ rest)
      → Lexed Fits (AreEnclosed Inner) start (40 ∷ (piece ++ 41 ∷ [])) rest
  unfolding symbol_of
  enclosed Inner start piece rest l =
      both (IsOfKind LeftParenthesis) (Both Inner (IsOfKind RightParenthesis)) start (40 ∷ []) (piece ++ 41 ∷ []) rest (symbol start 40 ((piece ++ 41 ∷ []) ++ rest) LeftParenthesis refl)
      (both Inner (IsOfKind RightParenthesis) (start + 1) piece (41 ∷ []) rest l (symbol (start + 1 + length piece) 41 rest RightParenthesis refl))
