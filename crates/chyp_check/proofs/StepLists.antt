-- The steps of a rewrite, one by one.
use Rattle.std.proofs.Common.{◌≡◌, ℕ, zero, suc, ◌+◌, ◌-◌, ◌<◌, ◌≤◌, List, [], ◌∷◌, length, Some, None, slice_get, slice_index_or, refl, sym, ◌∙◌, ap, subst, arith, ◌⊎◌, inl, inr, All}
use Rattle.std.proofs.lemmas.Bool.{cases_lt}
use Rattle.std.proofs.lemmas.List.{length-map}
use Rattle.chyp_term.specs.Morphism.{Morphism}
use Rattle.chyp_term.specs.Step.{Reason, reason_of, reasons_of}
use Rattle.chyp_term.specs.declared.step.Step.{Step}
use Rattle.chyp_judge.specs.Judged.{CanBeJudged, IsJudgement}
use Rattle.chyp_judge.specs.declared.judged.Judged.{Judged}
use Rattle.chyp_judge.specs.declared.judged.Judged.TheVariants.{Differs, Good, NoRewrite, SimpDiffers, SimpLimit, TooWide}
use Rattle.chyp_simp.specs.Laws.{IsUsable}
use Rattle.chyp_verdicts.specs.Steps.{AreGood, AreUsable, Move, moves_of, refusal_at, rules_of}
use Rattle.chyp_verdicts.proofs.OneVerdict.{slice_get-read, some-once}
use Rattle.chyp_verdicts.proofs.SomeVerdict.{usable-judged}

-- the step at a place goes from the term there to the next one
pub move-at : (terms : List Morphism) (reasons : List Reason) (k : ℕ) (r : Reason) (s t : Morphism) → slice_get reasons k ≡ Some r → slice_get terms k ≡ Some s → slice_get terms (suc k) ≡ Some t
    → slice_get (moves_of terms reasons) k ≡ Some (record { reason = r; from = s; to = t })
move-at [] reasons k r s t d e f = absurd cc
move-at (a ∷ []) reasons zero r s t d e f = absurd cc
move-at (a ∷ []) reasons (suc k) r s t d e f = absurd cc
move-at (a ∷ b ∷ rest) [] k r s t d e f = absurd cc
move-at (a ∷ b ∷ rest) (c ∷ reasons) zero r s t d e f = let x : a ≡ s = cc in let y : b ≡ t = cc in let z : c ≡ r = cc in cc
move-at (a ∷ b ∷ rest) (c ∷ reasons) (suc k) r s t d e f = move-at (b ∷ rest) reasons k r s t d e f

-- there is one step less than there are terms
pub length-moves : (terms : List Morphism) (reasons : List Reason) → length terms ≤ length reasons + 1 → length (moves_of terms reasons) ≡ length terms - 1
length-moves [] reasons h = refl
length-moves (a ∷ []) reasons h = refl
length-moves (a ∷ b ∷ rest) [] h = absurd (omega arith)
length-moves (a ∷ b ∷ rest) (r ∷ reasons) h = let l = length-moves (b ∷ rest) reasons (omega arith) in omega arith

-- one step more is good
pub good-more : (moves : List Move) (k : ℕ) (move : Move) → AreGood moves k → slice_get moves k ≡ Some move → IsJudgement move.reason move.from move.to Good → AreGood moves (suc k)
good-more moves k move front e is j other h f = go (cases_lt j k)
  where
    go : (j < k) ⊎ (k ≤ j) → IsJudgement other.reason other.from other.to Good
    go (inl i) = front j other i f
    go (inr i) =
        let same : k ≡ j = omega arith in
        let one : move ≡ other = some-once (slice_get moves j) move other (ap (slice_get moves) (sym same) ∙ e) f in
        subst (λ (m : Move). IsJudgement m.reason m.from m.to Good) one is

-- what gives no verdict is good
pub no-refusal : (n : ℕ) (j : Judged) → refusal_at n j ≡ None → j ≡ Good
no-refusal n Good e = refl
no-refusal n Differs e = absurd cc
no-refusal n (NoRewrite k) e = absurd cc
no-refusal n (TooWide k) e = absurd cc
no-refusal n SimpDiffers e = absurd cc
no-refusal n SimpLimit e = absurd cc

-- the item at a place
pub item-at : {A : Type 0} (xs : List A) (k : ℕ) (x : A) → k < length xs → x ≡ slice_index_or xs k x → slice_get xs k ≡ Some x
item-at [] k x h e = absurd (omega arith)
item-at (y ∷ ys) zero x h e = ap Some (sym e)
item-at (y ∷ ys) (suc k) x h e = item-at ys k x (omega arith) e

pub reason-at : (steps : List Step) (k : ℕ) (step : Step) → slice_get steps k ≡ Some step → slice_get (reasons_of steps) k ≡ Some (reason_of step)
reason-at [] k step e = absurd cc
reason-at (s ∷ ss) zero step e = let same : s ≡ step = cc in ap (λ x. Some (reason_of x)) same
reason-at (s ∷ ss) (suc k) step e = reason-at ss k step e

-- the step at a place can be judged
pub judged-at : (reasons : List Reason) (k : ℕ) (r : Reason) → AreUsable reasons → slice_get reasons k ≡ Some r → CanBeJudged r
judged-at reasons k r can e =
    let a = slice_get-read reasons k r e in
    usable-judged r (subst (λ x. All IsUsable (rules_of x)) a.1 (can k r a.0))

pub length-reasons : (steps : List Step) → length (reasons_of steps) ≡ length steps
length-reasons steps = length-map steps reason_of
