-- Numbers with commas between them, one by one.
use Rattle.std.proofs.Common.{◌≡◌, ℕ, ◌+◌, ◌<◌, true, false, List, [], ◌∷◌, ◌++◌, length, take, get_or, slice_index, refl, sym, ap, ◌∙◌, ⊎_elim, arith, append_assoc, length-take}
use Rattle.std.proofs.lemmas.List.{get_or_default}
use Rattle.std.specs.Prelude.{codes, decimal, nat_lt}
use Rattle.std.proofs.lemmas.Bool.{cases_Bool}
use Rattle.std.proofs.lemmas.Bool.Decides.{nat_tests}
use Rattle.chyp_term.proofs.Slices.{take-suc}
use Rattle.chyp_term.proofs.Closure.{get-item}
use Rattle.chyp_print.specs.Printing.{with_commas}

commas-next : (places : List ℕ) (place : ℕ) → 0 < length places → with_commas (places ++ place ∷ []) ≡ with_commas places ++ (codes "," ++ decimal place)
commas-next [] place some = absurd (omega arith)
commas-next (first ∷ []) place some = refl
commas-next (first ∷ next ∷ places) place some =
    ap (λ l. decimal first ++ (codes "," ++ l)) (commas-next (next ∷ places) place (omega arith))
    ∙ sym (append_assoc (decimal first) (codes "," ++ with_commas (next ∷ places)) (codes "," ++ decimal place))

first-pushed : (places : List ℕ) (i x : ℕ) → i ≡ 0 → with_commas (take i places ++ x ∷ []) ≡ with_commas (take i places) ++ decimal x
first-pushed places i x none = rw none refl

-- one more number behind those so far
pub pushed : (places list before after : List ℕ) (i x : ℕ) → i < length places → x ≡ slice_index places i → before ≡ list ++ with_commas (take i places)
    → (nat_lt 0 i ≡ false → after ≡ before ++ decimal x) → (nat_lt 0 i ≡ true → after ≡ before ++ (codes "," ++ decimal x)) → after ≡ list ++ with_commas (take (i + 1) places)
pushed places list before after i x h is so_far first next =
    let item : x ≡ get_or places i x = is ∙ get_or_default places i 0 x h in
    let taken : take (i + 1) places ≡ take i places ++ x ∷ [] = take-suc places i x (get-item places i x h item) in
    let done = take i places in
    ⊎_elim
    (λ (yes : nat_lt 0 i ≡ true).
    let some : 0 < i = grind (arith, nat_tests) in
    let size = length-take i places in
    next yes ∙ ap (λ l. l ++ (codes "," ++ decimal x)) so_far ∙ append_assoc list (with_commas done) (codes "," ++ decimal x)
    ∙ ap (λ l. list ++ l) (sym (ap with_commas taken ∙ commas-next done x (omega arith))))
    (λ (no : nat_lt 0 i ≡ false).
    let none : i ≡ 0 = grind (arith, nat_tests) in
    first no ∙ ap (λ l. l ++ decimal x) so_far ∙ append_assoc list (with_commas done) (decimal x) ∙ ap (λ l. list ++ l) (sym (ap with_commas taken ∙ first-pushed places i x none)))
    (cases_Bool (nat_lt 0 i))
