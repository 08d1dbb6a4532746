-- What holds of the words of a statement that is lent.
use Rattle.std.proofs.Common.{◌≡◌, ℕ, ◌<◌, ◌≤◌, List, [], ◌++◌, length, All, sym, ◌∙◌, ap, subst, arith, append-nil}
use Rattle.std.specs.Str.{IsUtf8}
use Rattle.std.proofs.lemmas.List.Elements.{All-map}
use Rattle.chyp_lex.specs.declared.token.Token.{Token}
use Rattle.chyp_lex.specs.declared.token.TokenKind.TheVariants.{Ident}
use Rattle.chyp_lex.specs.Names.{IsNameText}
use Rattle.chyp_lex.specs.Tokens.{text_limit, token_text}
use Rattle.chyp_syntax.specs.Words.{Word, word_of, words_of}
use Rattle.chyp_syntax.proofs.Numbered.{length-words}
use Rattle.chyp_syntax.proofs.Spans.{spans_few}
use Rattle.chyp_env.specs.ChunkView.{AreNamed, AreSpelled, IsLent}

-- they are few
pub words_short : (tokens : List Token) (first second : List ℕ) (words : List Word) → IsLent tokens first second → words_of (first ++ second) tokens ≡ words
    → length words ≤ text_limit
words_short tokens first second words lent is =
    let few = spans_few 0 (length first) tokens lent.spans in
    let short = lent.short in
    subst (λ (ws : List Word). length ws ≤ text_limit) is (omega (arith, length-words (first ++ second) tokens))

pub tokens_few : (tokens : List Token) (first second : List ℕ) → IsLent tokens first second → length tokens < 4294967296
tokens_few tokens first second lent = let few = spans_few 0 (length first) tokens lent.spans in let short = lent.short in omega arith

-- what is so of each identifier's text is so of its bytes
words_so : (P : List ℕ → Type 0) (tokens : List Token) (first second : List ℕ) (words : List Word) → IsLent tokens first second → words_of (first ++ second) tokens ≡ words
    → All (λ token. token.kind ≡ Ident → P (token_text first token)) tokens → All (λ word. word.kind ≡ Ident → P word.bytes) words
words_so P tokens first second words lent is all =
    let whole : first ++ second ≡ first = ap (λ rest. first ++ rest) lent.one_piece ∙ append-nil first in
    subst (All (λ (word : Word). word.kind ≡ Ident → P word.bytes)) (ap (λ text. words_of text tokens) (sym whole) ∙ is)
    (All-map (λ (word : Word). word.kind ≡ Ident → P word.bytes) (word_of first) tokens all)

-- identifiers are UTF-8
pub words_spelled : (tokens : List Token) (first second : List ℕ) (words : List Word) → IsLent tokens first second → words_of (first ++ second) tokens ≡ words
    → AreSpelled words
words_spelled tokens first second words lent is = words_so IsUtf8 tokens first second words lent is (λ k d h e. (lent.spelled k d h e).0)

-- and names by themselves
pub words_named : (tokens : List Token) (first second : List ℕ) (words : List Word) → IsLent tokens first second → words_of (first ++ second) tokens ≡ words
    → AreNamed words
words_named tokens first second words lent is = words_so IsNameText tokens first second words lent is (λ k d h e. (lent.spelled k d h e).1)
