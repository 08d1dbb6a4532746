use Rattle.std.proofs.Common.{◌≡◌, ◌<◌, ◌≤◌, ◌↔◌, ℕ, Bool, IsTrue, List, [], ◌∷◌, length, slice_index_or, Bor, ap, sym, ◌∙◌, arith}
use Rattle.std.specs.Str.{bytes_eq}
use Rattle.std.proofs.lemmas.Slice.Eq.{bytes_eq-Decides}
use Rattle.chyp_app.specs.Words.{texts_of}
use Rattle.chyp_app.proofs.run.is_check.Goals as goal

-- one word, compared, decides whether the words are the one that is wanted
one_word : (words : List (Bor (List ℕ))) (other : Bor (List ℕ)) (wanted : List ℕ) (same : Bool) → 1 ≤ length words → length words < 2
    → same ≡ bytes_eq (slice_index_or words 0 other).now wanted → IsTrue same ↔ (texts_of words ≡ wanted ∷ [])
one_word [] other wanted same low high e = absurd (omega arith)
one_word (word ∷ next ∷ words) other wanted same low high e = absurd (omega arith)
one_word (word ∷ []) other wanted same low high e =
    (λ t. ap (λ w. w ∷ []) ((bytes_eq-Decides word.now wanted).0 (sym e ∙ t)), λ t. let text : word.now ≡ wanted = cc in e ∙ (bytes_eq-Decides word.now wanted).1 text)

pub returns-in-len1 : goal.returns-in-len1
returns-in-len1 c = one_word c.args.words.now _ _ c.eq.result c.in-len1.len_at_least c.in-len1.len_below c.eq.ensures
