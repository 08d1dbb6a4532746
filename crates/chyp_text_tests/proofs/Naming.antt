-- Names that are told by their tokens.
use Rattle.std.proofs.Common.{◌≡◌, ℕ, IsTrue, List, [], ◌∷◌, length, take, drop, slice_get, Some, refl, sym, ap, subst, ◌∙◌, arith}
use Rattle.std.proofs.Math.Seq.{take-length}
use Rattle.chyp_lex.specs.declared.token.Token.{Token}
use Rattle.chyp_lex.specs.Names.{IsNameText, NamesAreText, is_name}
use Rattle.chyp_lex.specs.Tokens.{token_text}

whole-text : (text : List ℕ) → take (length text) (drop 0 text) ≡ text
whole-text [] = refl
whole-text (b ∷ text) = take-length (b ∷ text)

-- a text whose first token is a name that takes all of it is a name
pub is-name : (text : List ℕ) (tokens : List Token) (token : Token) → NamesAreText text tokens → slice_get tokens 0 ≡ Some token → token.start ≡ 0 → token.len ≡ length text
    → IsTrue (is_name token.kind) → IsNameText text
is-name text [] token names first start len name = absurd cc
is-name text (x ∷ tokens) token names first start len name =
    let same : x ≡ token = cc in
    let named : IsNameText (token_text text x) = (names 0 x (omega arith) (subst (λ (t : Token). IsTrue (is_name t.kind)) (sym same) name)).1 in
    let all : token_text text x ≡ text = ap (token_text text) same ∙ ap (λ n. take token.len (drop n text)) start ∙ ap (λ n. take n (drop 0 text)) len ∙ whole-text text in
    subst IsNameText all named
