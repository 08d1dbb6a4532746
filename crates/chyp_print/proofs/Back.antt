-- A printed term is read back.
use Rattle.std.proofs.Common.{◌≡◌, ℕ, ◌<◌, ◌^◌, false, All, List, [], ◌∷◌, ◌++◌, length, map, get_or, slice_index, Result, Ok, Err, IfOk, refl, sym, ap, subst, ◌∙◌, arith, append-nil}
use Rattle.chyp_extract.specs.Rehalving.{rehalved}
use Rattle.chyp_extract.proofs.Rehalved.{rehalved-extracted}
use Rattle.std.proofs.lemmas.List.{get_or_default}
use Rattle.chyp_term.specs.Perm.{IsPermutation}
use Rattle.chyp_lex.specs.declared.token.Token.{Token}
use Rattle.chyp_lex.specs.Tokens.{AreTokens, AreTokensFrom, nothing_left}
use Rattle.chyp_lex.proofs.TokenLists.{tokens-unique}
use Rattle.chyp_syntax.specs.Words.{bytes_at, words_of}
use Rattle.chyp_syntax.specs.Numbered.{numbered, terminal_of}
use Rattle.chyp_term.specs.Morphism.{Morphism, beside, generator, permutation, then}
use Rattle.chyp_print.specs.Printing.{Naming, printed_by}
use Rattle.chyp_print.specs.Reading.{AreSmall, HasSmallPlaces, IsNamed, IsReadBack, IsReadBackItself, PrintedReadsBack, ReadsAs}
use Rattle.chyp_print.proofs.Fronts.{FitFrom, terminal}
use Rattle.chyp_print.proofs.Meaning.{each-fits}
use Rattle.chyp_print.proofs.Printed.{AreReadable, MeansIn, lexed}
use Rattle.std.specs.List.{enumerate_from}
use Rattle.chyp_print.proofs.Reading.{spelled-reads}
use Rattle.chyp_print.proofs.Spelling.{Spell}

-- places of a permutation that isn't too long can be read
pub places-small : (p : List ℕ) → IsPermutation (length p) p → length p < 2 ^ 64 → AreSmall p
places-small p is small k d h =
    let within : slice_index p k < length p = is.within k h in
    let same : get_or p k d ≡ slice_index p k = get_or_default p k d 0 h in
    omega arith

readable : (naming : Naming) (meaning : List ℕ → Morphism) (t : Morphism) → IsNamed naming meaning t → HasSmallPlaces t → AreReadable naming t
readable naming meaning (generator n a b) h small = h.0
readable naming meaning (permutation a p) h small = small
readable naming meaning (then s t) h small = (readable naming meaning s h.0 small.0, readable naming meaning t h.1 small.1)
readable naming meaning (beside s t) h small = (readable naming meaning s h.0 small.0, readable naming meaning t h.1 small.1)

-- what the grammar sees of the words of a text
terminals-are : (whole : List ℕ) (tokens : List Token) → map terminal tokens ≡ map terminal_of (words_of whole tokens)
terminals-are whole [] = refl
terminals-are whole (token ∷ tokens) = ap (λ l. terminal token ∷ l) (terminals-are whole tokens)

-- the tokens of a printed term spell it
spelled : (naming : Naming) (meaning : List ℕ → Morphism) (t : Morphism) (tokens : List Token) → AreReadable naming t → IsNamed naming meaning t → AreTokens (printed_by naming t) tokens
    → let words = words_of (printed_by naming t) tokens in Spell (λ token. meaning (bytes_at words token)) false t (numbered words)
spelled naming meaning t tokens h named are =
    let text = printed_by naming t in
    let means : ℕ → Morphism = λ token. meaning (bytes_at (words_of text tokens) token) in
    let l = lexed text meaning means naming false t 0 [] h named tt (sym (append-nil text)) in
    let these : AreTokensFrom 0 text (l.front ++ []) = subst (λ x. AreTokensFrom 0 x (l.front ++ [])) (append-nil text) (l.are [] nothing_left) in
    let same : l.front ≡ tokens = sym (append-nil l.front) ∙ tokens-unique these are in
    let fit : FitFrom (MeansIn text meaning means) 0 l.front = subst (FitFrom (MeansIn text meaning means) 0) (sym same) (each-fits text meaning tokens [] tokens refl 0 refl) in
    let said : Spell means false t (enumerate_from 0 (map terminal tokens)) = subst (λ x. Spell means false t (enumerate_from 0 (map terminal x))) same (l.says 0 fit) in
    subst (λ x. Spell means false t (enumerate_from 0 x)) (terminals-are text tokens) said

pub printed-reads : (naming : Naming) (t : Morphism) → HasSmallPlaces t → IsReadBack naming t (printed_by naming t)
printed-reads naming t small meaning c tokens are =
    let text = printed_by naming t in
    let words = words_of text tokens in
    let means : ℕ → Morphism = λ token. meaning (bytes_at words token) in
    let s = spelled naming meaning t tokens (readable naming meaning t c.named small) c.named are in
    spelled-reads means naming meaning t (numbered words) c.named c.typed c.shallow s

extracted-reads : (naming : Naming) (t : Morphism) → HasSmallPlaces t → IsReadBackItself naming t (printed_by naming t)
extracted-reads naming t small meaning g e c =
    let same : rehalved t ≡ t = ap rehalved e ∙ rehalved-extracted g ∙ sym e in
    subst (ReadsAs meaning (printed_by naming t)) same (printed-reads naming t small meaning c)

pub printed-back : PrintedReadsBack
printed-back naming t small = (printed-reads naming t small, extracted-reads naming t small)

-- what holds of the text of a term holds of a result with that text
pub if-printed : {E : Type 0} (naming : Naming) (t : Morphism) (P : List ℕ → Type 0) (result : Result (List ℕ) E) → (HasSmallPlaces t → P (printed_by naming t))
    → IfOk result (λ text. text ≡ printed_by naming t) → IfOk result (λ text. HasSmallPlaces t) → IfOk result P
if-printed naming t P (Ok text) holds is small = subst P (sym is) (holds small)
if-printed naming t P (Err e) holds is small = tt
