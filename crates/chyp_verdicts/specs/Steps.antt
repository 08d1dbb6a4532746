-- The verdict on a rewrite that nothing refuses, by its steps.
use Rattle.std.specs.Prelude.{◌≡◌, ℕ, ◌+◌, ◌<◌, Bool, true, false, IsTrue, List, [], ◌∷◌, length, Option, None, Some, slice_get, All}
use Rattle.chyp_base.specs.declared.verdict.Verdict.{Verdict}
use Rattle.chyp_base.specs.declared.verdict.Verdict.TheVariants as verdict
use Rattle.chyp_base.specs.declared.verdict.Verdict.TheVariants.{Unfinished, Proved}
use Rattle.chyp_term.specs.Morphism.{Morphism}
use Rattle.chyp_term.specs.Step.{Reason, by_laws, by_rule, by_simp}
use Rattle.chyp_simp.specs.Laws.{IsUsable}
use Rattle.chyp_judge.specs.Judged.{IsJudgement}
use Rattle.chyp_judge.specs.declared.judged.Judged.{Judged}
use Rattle.chyp_judge.specs.declared.judged.Judged.TheVariants.{Differs, Good, NoRewrite, SimpDiffers, SimpLimit, TooWide}

-- a step, from a term to its goal
pub record Move : Type 0 where
  pub reason : Reason
  pub from : Morphism
  pub to : Morphism

-- the steps between terms, each with its reason; a hole, which has no term, is none
abbrev pub moves_of : List Morphism → List Reason → List Move
moves_of [] reasons = []
moves_of (from ∷ []) reasons = []
moves_of (from ∷ to ∷ terms) [] = []
moves_of (from ∷ to ∷ terms) (reason ∷ reasons) = record { reason = reason; from = from; to = to } ∷ moves_of (to ∷ terms) reasons

-- the equations that a step rests on, each in the direction in which it is used
abbrev pub rules_of : Reason → List (Morphism × Morphism)
rules_of by_laws = []
rules_of (by_rule rule) = rule ∷ []
rules_of (by_simp rules) = rules

-- the verdict of a rewrite whose step of this number is judged so; a good step gives none
abbrev pub refusal_at : ℕ → Judged → Option Verdict
refusal_at step Good = None
refusal_at step Differs = Some (verdict.Differs step)
refusal_at step (NoRewrite occurrences) = Some (verdict.NoRewrite step occurrences)
refusal_at step (TooWide placements) = Some (verdict.TooWide step placements)
refusal_at step SimpDiffers = Some (verdict.SimpDiffers step)
refusal_at step SimpLimit = Some (verdict.SimpLimit step)

-- the first k steps are good
abbrev pub AreGood : List Move → ℕ → Type 0
AreGood moves k = (j : ℕ) (move : Move) → j < k → slice_get moves j ≡ Some move → IsJudgement move.reason move.from move.to Good

-- the verdict is that of the first step that isn't good; steps are numbered from 1
pub record StopsWith (moves : List Move) (verdict : Verdict) : Type 0 where
  pub k : ℕ
  pub move : Move
  pub judged : Judged
  pub front : AreGood moves k
  pub there : slice_get moves k ≡ Some move
  pub judgement : IsJudgement move.reason move.from move.to judged
  pub refuses : refusal_at (k + 1) judged ≡ Some verdict

-- The verdict on a rewrite with these steps: that of the first step that isn't good; else it is unfinished where it is open,
-- and else it is proved.
pub data IsVerdictOnMoves (moves : List Move) (open' : Bool) : Verdict → Type 0 where
  stops : {verdict : Verdict} → StopsWith moves verdict → IsVerdictOnMoves moves open' verdict
  unfinished : AreGood moves (length moves) → IsTrue open' → IsVerdictOnMoves moves open' Unfinished
  proved : AreGood moves (length moves) → open' ≡ false → IsVerdictOnMoves moves open' Proved

-- a rewrite is open where it has no step, or a hole
abbrev pub is_open : List Reason → Bool → Bool
is_open [] hole = true
is_open (reason ∷ reasons) hole = hole

-- the verdict on a rewrite with these terms, reasons of its steps, and with a hole or without
abbrev pub IsVerdictOnSteps : List Morphism → List Reason → Bool → Verdict → Type 0
IsVerdictOnSteps terms reasons hole verdict = IsVerdictOnMoves (moves_of terms reasons) (is_open reasons hole) verdict

-- steps can rest on the equations that they name: both sides of each are typed, have one type, and are within the limits
abbrev pub AreUsable : List Reason → Type 0
AreUsable reasons = All (λ reason. All IsUsable (rules_of reason)) reasons
