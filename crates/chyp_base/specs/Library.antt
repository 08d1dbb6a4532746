-- What a library answers for a name.
use Rattle.std.specs.Prelude.{◌≡◌, ℕ, ◌+◌, List, [], Result, Option, None, Some, MatchResult, take, ⊤}
use Rattle.std.specs.Option.{option_map}
use Rattle.chyp_base.specs.declared.found.Found.{Found}
use Rattle.chyp_base.specs.declared.found.Found.TheVariants.{There, Absent}
use Rattle.chyp_base.specs.declared.limits.TheConstants.{MAX_TEXT_LEN}

-- the most bytes that are read of a module: the limit of a text, and one to tell that it is passed
abbrev pub most_read : ℕ
most_read = MAX_TEXT_LEN + 1

-- the text of each module, by its name; None where there is no such module
abbrev pub Texts : Type 0
Texts = List ℕ → Option (List ℕ)

-- for the text that a name has, or for none: `There` gives its front, `Absent` says that there is none
abbrev pub AnswersFor : Option (List ℕ) → Found → List ℕ → Type 0
AnswersFor text Absent bytes = (text ≡ None) × (bytes ≡ [])
AnswersFor text There bytes = option_map (λ whole. take most_read whole) text ≡ Some bytes

-- the same where the library tells its texts, else only that nothing is read of what is absent
abbrev pub Answers : Option Texts → List ℕ → Found → List ℕ → Type 0
Answers (Some texts) name found bytes = AnswersFor (texts name) found bytes
Answers None name Absent bytes = bytes ≡ []
Answers None name There bytes = ⊤

-- a library with these texts may answer this for the name, with these bytes; at an error there are none
abbrev pub FindsModule : {E : Type 0} → Option Texts → List ℕ → Result Found E → List ℕ → Type 0
FindsModule texts name result bytes = MatchResult result (λ found. Answers texts name found bytes) (λ _. bytes ≡ [])
