-- The lines of a report, one by one.
use Rattle.std.proofs.Common.{Bool, true, false, ◌&&◌, if◌then◌else◌, None, is_some, refl, subst, arith, ◌≡◌, ℕ, zero, suc, ◌+◌, List, [], ◌∷◌, ◌++◌, drop, Some, slice_get, ap, sym, ◌∙◌, append_assoc, add-one}
use Rattle.chyp_base.specs.declared.verdict.Verdict.{Verdict}
use Rattle.std.specs.Str.{IsUtf8}
use Rattle.chyp_lex.specs.Names.{is_name, NamesAreText}
use Rattle.chyp_lex.specs.Tokens.{token_text}
use Rattle.chyp_lex.specs.declared.token.Token.{Token}
use Rattle.chyp_syntax.specs.declared.chunk.Chunk.{Chunk}
use Rattle.chyp_syntax.specs.Heading.{chunk_tokens, keyword_of, shown_name}
use Rattle.chyp_app.specs.Report.{line_of, lines_of}

lines-suc : (text : List ℕ) (tokens : List Token) (i : ℕ) (chunk : Chunk) (verdict : Verdict) (chunks : List Chunk) (verdicts : List Verdict)
    → slice_get chunks i ≡ Some chunk → slice_get verdicts i ≡ Some verdict
    → lines_of text tokens (drop i chunks) (drop i verdicts) ≡ line_of text (chunk_tokens tokens chunk) verdict ++ lines_of text tokens (drop (suc i) chunks) (drop (suc i) verdicts)
lines-suc text tokens i chunk verdict [] verdicts e f = absurd cc
lines-suc text tokens i chunk verdict (c ∷ cs) [] e f = absurd cc
lines-suc text tokens zero chunk verdict (c ∷ cs) (v ∷ vs) e f =
    let same : c ≡ chunk = cc in
    let alike : v ≡ verdict = cc in
    ap (λ x. line_of text (chunk_tokens tokens x) v ++ lines_of text tokens cs vs) same
    ∙ ap (λ y. line_of text (chunk_tokens tokens chunk) y ++ lines_of text tokens cs vs) alike
lines-suc text tokens (suc i) chunk verdict (c ∷ cs) (v ∷ vs) e f = lines-suc text tokens i chunk verdict cs vs e f

-- what is written and what is left stay the same when a line is written
pub lines-turn : (text : List ℕ) (tokens : List Token) (i : ℕ) (chunk : Chunk) (verdict : Verdict) (chunks : List Chunk) (verdicts : List Verdict) (written : List ℕ)
    → slice_get chunks i ≡ Some chunk → slice_get verdicts i ≡ Some verdict
    → (written ++ line_of text (chunk_tokens tokens chunk) verdict) ++ lines_of text tokens (drop (i + 1) chunks) (drop (i + 1) verdicts)
    ≡ written ++ lines_of text tokens (drop i chunks) (drop i verdicts)
lines-turn text tokens i chunk verdict chunks verdicts written e f =
    ap (λ n. (written ++ line_of text (chunk_tokens tokens chunk) verdict) ++ lines_of text tokens (drop n chunks) (drop n verdicts)) (add-one i)
    ∙ append_assoc written (line_of text (chunk_tokens tokens chunk) verdict) (lines_of text tokens (drop (suc i) chunks) (drop (suc i) verdicts))
    ∙ ap (λ lines. written ++ lines) (sym (lines-suc text tokens i chunk verdict chunks verdicts e f))

-- the name that a statement shows is UTF-8
pub shown-utf8 : (text : List ℕ) (statement : List Token) (name : List ℕ) → NamesAreText text statement → shown_name text statement ≡ Some name → IsUtf8 name
shown-utf8 text [] name h e = absurd cc
shown-utf8 text (keyword ∷ []) name h e = absurd cc
shown-utf8 text (keyword ∷ token ∷ rest) name h e = go (is_some (keyword_of keyword.kind)) (is_name token.kind) refl e
  where
    go : (a b : Bool) → is_name token.kind ≡ b → (if a && b then Some (token_text text token) else None) ≡ Some name → IsUtf8 name
    go true true is f = let same : token_text text token ≡ name = cc in subst IsUtf8 same (h 1 token (omega arith) is).0
    go true false is f = absurd cc
    go false b is f = absurd cc
