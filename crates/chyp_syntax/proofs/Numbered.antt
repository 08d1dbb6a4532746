-- The numbered tokens from a place on, and what stands at their front.
use Rattle.std.proofs.Common.{◌≡◌, ℕ, zero, suc, ◌+◌, ◌<◌, ◌≤◌, inl, inr, List, [], ◌∷◌, length, map, get_or, refl, sym, ◌∙◌, ap, ap₂, subst, zero-add, arith}
use Rattle.std.proofs.lemmas.List.{drop_more, drop_all, length-drop, length-map}
use Rattle.std.specs.List.{enumerate_from}
use Rattle.std.proofs.lemmas.List.FromFn.{length-enumerate_from, get_or-enumerate_from}
use Rattle.std.proofs.lemmas.Option.{slice_get_cases}
use Rattle.chyp_lex.specs.declared.token.Token.{Token}
use Rattle.chyp_lex.specs.declared.token.TokenKind.{TokenKind}
use Rattle.chyp_lex.specs.declared.token.TokenKind.TheVariants.{Number}
use Rattle.chyp_syntax.specs.Numbered.{Terminal, terminal_of, NumberedToken, numbered, kind_of, value_of}
use Rattle.chyp_syntax.specs.Beginning.{words_from, tokens_from, BeginsWithKind, BeginsWithNumber}
use Rattle.chyp_syntax.specs.Words.{Word, word_of, words_of}

-- what the grammar sees of a token
abbrev pub terminal : Token → Terminal
terminal token = terminal_of (word_of [] token)

pub length-terminals : (words : List Word) → length (map terminal_of words) ≡ length words
length-terminals words = length-map words terminal_of

pub length-numbered : (words : List Word) → length (numbered words) ≡ length words
length-numbered words = length-enumerate_from 0 (map terminal_of words) ∙ length-terminals words

pub length-words : (text : List ℕ) (tokens : List Token) → length (words_of text tokens) ≡ length tokens
length-words text tokens = length-map tokens (word_of text)

-- how many are numbered of tokens
pub length-tokens : (tokens : List Token) → length (numbered (words_of [] tokens)) ≡ length tokens
length-tokens tokens = length-numbered (words_of [] tokens) ∙ length-words [] tokens

-- the text of tokens is nothing to the grammar
pub same-terminals : (text : List ℕ) (tokens : List Token) → map terminal_of (words_of text tokens) ≡ map terminal_of (words_of [] tokens)
same-terminals text [] = refl
same-terminals text (token ∷ tokens) = let t : Terminal = terminal token in ap (λ ts. t ∷ ts) (same-terminals text tokens)

pub same-numbered : (text : List ℕ) (tokens : List Token) → numbered (words_of text tokens) ≡ numbered (words_of [] tokens)
same-numbered text tokens = ap (enumerate_from 0) (same-terminals text tokens)

get-terminal : (words : List Word) (at : ℕ) (word : Word) → at < length words → get_or (map terminal_of words) at (terminal_of word) ≡ terminal_of (get_or words at word)
get-terminal [] at word lt = absurd (omega arith)
get-terminal (w ∷ words) zero word lt = refl
get-terminal (w ∷ words) (suc at) word lt = get-terminal words at word (omega arith)

get-word : (tokens : List Token) (at : ℕ) (token : Token) → at < length tokens → get_or (words_of [] tokens) at (word_of [] token) ≡ word_of [] (get_or tokens at token)
get-word [] at token lt = absurd (omega arith)
get-word (t ∷ tokens) zero token lt = refl
get-word (t ∷ tokens) (suc at) token lt = get-word tokens at token (omega arith)

pub words_from-at : (words : List Word) (at : ℕ) (default : Word) → at < length words
    → words_from words at ≡ (at, terminal_of (get_or words at default)) ∷ words_from words (at + 1)
words_from-at words at default lt =
    let d : NumberedToken = (0, terminal_of default) in
    let made : ℕ → Terminal → NumberedToken = λ n t. (n, t) in
    drop_more (numbered words) at d (omega (arith, length-numbered words))
    ∙ ap (λ (x : NumberedToken). x ∷ words_from words (at + 1))
    (get_or-enumerate_from 0 (map terminal_of words) at d (omega (arith, length-terminals words)) ∙ ap₂ made (zero-add at) (get-terminal words at default lt))

pub tokens_from-at : (tokens : List Token) (at : ℕ) (default : Token) → at < length tokens
    → tokens_from tokens at ≡ (at, terminal (get_or tokens at default)) ∷ tokens_from tokens (at + 1)
tokens_from-at tokens at default lt =
    words_from-at (words_of [] tokens) at (word_of [] default) (omega (arith, length-words [] tokens))
    ∙ ap (λ (w : Word). let x : NumberedToken = (at, terminal_of w) in x ∷ tokens_from tokens (at + 1)) (get-word tokens at default lt)

pub tokens_from-more : (tokens : List Token) (at : ℕ) (token : Token) → at < length tokens → token ≡ get_or tokens at token →
    tokens_from tokens at ≡ (at, terminal token) ∷ tokens_from tokens (at + 1)
tokens_from-more tokens at token lt read =
    tokens_from-at tokens at token lt ∙ ap (λ (t : Token). let x : NumberedToken = (at, terminal t) in x ∷ tokens_from tokens (at + 1)) (sym read)

pub tokens_from-past : (tokens : List Token) (at : ℕ) → length tokens ≤ at → tokens_from tokens at ≡ []
tokens_from-past tokens at le = drop_all at (numbered (words_of [] tokens)) (omega (arith, length-tokens tokens))

-- a token that begins the list
pub begins_there : (kind : TokenKind) (xs ys : List NumberedToken) (x : NumberedToken) → xs ≡ x ∷ ys → kind_of x ≡ kind → BeginsWithKind kind xs
begins_there kind xs ys x e is = subst (BeginsWithKind kind) (sym e) is

pub kind_there : (kind : TokenKind) (xs ys : List NumberedToken) (x : NumberedToken) → xs ≡ x ∷ ys → BeginsWithKind kind xs → kind_of x ≡ kind
kind_there kind xs ys x e is = subst (BeginsWithKind kind) e is

pub nothing_begins : (kind : TokenKind) (xs : List NumberedToken) → xs ≡ [] → BeginsWithKind kind xs → ⊥
nothing_begins kind xs e is = subst (BeginsWithKind kind) e is

pub more_there : (tokens : List Token) (at : ℕ) → at < length tokens → tokens_from tokens at ≡ [] → ⊥
more_there tokens at lt e = omega (arith, ap length e, length-drop at (numbered (words_of [] tokens)), length-tokens tokens)

-- what stands at a place where a kind stands
pub token_there : (tokens : List Token) (at : ℕ) (kind : TokenKind) → BeginsWithKind kind (tokens_from tokens at) →
    (token : Terminal) × (at < length tokens) × (tokens_from tokens at ≡ (at, token) ∷ tokens_from tokens (at + 1)) × (token.kind ≡ kind)
token_there tokens at kind begins =
    elim ((slice_get_cases tokens at).1) [
      | inl found ↦
          let here = tokens_from-more tokens at found.0 found.1 (sym found.3) in
          (terminal found.0, found.1, here, kind_there kind (tokens_from tokens at) (tokens_from tokens (at + 1)) (at, terminal found.0) here begins)
      | inr past ↦ absurd (nothing_begins kind (tokens_from tokens at) (tokens_from-past tokens at past.0) begins)
    ]

pub number_there : (xs ys : List NumberedToken) (x : NumberedToken) → xs ≡ x ∷ ys → BeginsWithKind Number xs → BeginsWithNumber (value_of x) xs
number_there xs ys x e begins = subst (BeginsWithNumber (value_of x)) (sym e) (kind_there Number xs ys x e begins, refl)

pub from-two : (tokens : List Token) (at : ℕ) → tokens_from tokens (at + 1 + 1) ≡ tokens_from tokens (at + 2)
from-two tokens at = let e : at + 1 + 1 ≡ at + 2 = omega arith in ap (tokens_from tokens) e

pub from-three : (tokens : List Token) (at : ℕ) → tokens_from tokens (at + 1 + 1 + 1) ≡ tokens_from tokens (at + 3)
from-three tokens at = let e : at + 1 + 1 + 1 ≡ at + 3 = omega arith in ap (tokens_from tokens) e

pub within_kind : (tokens : List Token) (at : ℕ) (kind : TokenKind) → BeginsWithKind kind (tokens_from tokens at) → at < length tokens
within_kind tokens at kind begins = (token_there tokens at kind begins).1

pub number_kind : (value : ℕ) (xs : List NumberedToken) → BeginsWithNumber value xs → BeginsWithKind Number xs
number_kind value [] begins = elim begins [ ]
number_kind value (x ∷ xs) begins = begins.0
