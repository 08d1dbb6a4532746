-- From what a command gives to what a run gives.
use Rattle.std.proofs.Common.{ℕ, List, inl, inr, refl}
use Rattle.chyp_base.specs.Library.{Texts}
use Rattle.chyp_base.specs.declared.status.Status.{Status}
use Rattle.chyp_base.specs.declared.status.Status.TheVariants.{BadWords}
use Rattle.chyp_app.specs.Output.{Output, EachOutputIsExplained, IsCheck, IsTrueOutput, nothing_but, of_bad_words, of_check, says_nothing}
use Rattle.chyp_app.specs.Headline.{Gives, GivesOrWants}
use Rattle.chyp_app.specs.Words.{Accepts}

-- what holds of an output that `check` gives holds of one that the run is to give
pub gives : EachOutputIsExplained → (words : List (List ℕ)) (bytes : List ℕ) (texts : Texts) (Holds : Output → Type 0) → Accepts words → Gives (IsCheck texts bytes) Holds
    → Gives (IsTrueOutput words bytes texts) Holds
gives law words bytes texts Holds w g =
    record { output = g.output; is_given = record { is_output = of_check w g.is_given; explained = law texts bytes g.output g.is_given }; holds = g.holds }

pub gives_or_wants : EachOutputIsExplained → (words : List (List ℕ)) (bytes : List ℕ) (texts : Texts) (status : Status) (Holds : Output → Type 0) → Accepts words
    → GivesOrWants status (IsCheck texts bytes) Holds → GivesOrWants status (IsTrueOutput words bytes texts) Holds
gives_or_wants law words bytes texts status Holds w (inl e) = inl e
gives_or_wants law words bytes texts status Holds w (inr g) = inr (gives law words bytes texts Holds w g)

-- an output without text says nothing
pub nothing_said : (words : List (List ℕ)) (bytes : List ℕ) (texts : Texts) → ¬ Accepts words → IsTrueOutput words bytes texts (nothing_but BadWords)
nothing_said words bytes texts n = record { is_output = of_bad_words n; explained = says_nothing refl }
