-- What is promised of a whole run.
use Rattle.std.specs.Prelude.{take, ◌≤◌, ◌≡◌, ◌⊎◌, ℕ, ◌+◌, ◌<◌, List, ◌++◌, Option, Some}
use Rattle.chyp_base.specs.declared.status.Status.{Status}
use Rattle.chyp_base.specs.declared.status.Status.TheVariants.{Done, SomeNotGood, ReadFault, WriteFault, LibraryFault, BadCommand, NoMemory}
use Rattle.chyp_app.specs.Output.{Output}

-- there is an output that is to be given, and this holds of it
pub record Gives (IsGiven Holds : Output → Type 0) : Type 0 where
  pub output : Output
  pub is_given : IsGiven output
  pub holds : Holds output

-- its text was written: the sink holds it behind what it held
abbrev pub IsWritten : List ℕ → Option (List ℕ) → Output → Type 0
IsWritten held held_now output = held_now ≡ Some (held ++ output.text)

-- a front of its text was written
pub record IsBegun (held : List ℕ) (held_now : Option (List ℕ)) (output : Output) : Type 0 where
  pub written : ℕ
  pub writes : held_now ≡ Some (held ++ take written output.text)

-- its status is that of the run, and as many steps were counted as it has checks
pub record IsReached (steps steps_now : ℕ) (status : Status) (output : Output) : Type 0 where
  pub ends : status ≡ output.status
  pub counts : steps_now ≡ steps + output.checks

-- no more steps were counted than it has checks
pub record IsCountedTo (steps steps_now : ℕ) (output : Output) : Type 0 where
  pub rises : steps ≤ steps_now
  pub counts : steps_now ≤ steps + output.checks

-- memory was wanting, or there is an output that is to be given, and this holds of it
abbrev pub GivesOrWants : Status → (Output → Type 0) → (Output → Type 0) → Type 0
GivesOrWants status IsGiven Holds = (status ≡ NoMemory) ⊎ Gives IsGiven Holds

-- the run gave what it is to give: the text is written, the status is the output's, and its checks were counted
abbrev pub EndsWell : (Output → Type 0) → List ℕ → Option (List ℕ) → ℕ → ℕ → Status → Type 0
EndsWell IsGiven held held_now steps steps_now status =
    GivesOrWants status IsGiven (λ output. IsWritten held held_now output × IsReached steps steps_now status output)

-- the run gave a part of it: a front of the text is written, and no more checks were counted
abbrev pub Begins : (Output → Type 0) → List ℕ → Option (List ℕ) → ℕ → ℕ → Type 0
Begins IsGiven held held_now steps steps_now = Gives IsGiven (λ output. IsBegun held held_now output × IsCountedTo steps steps_now output)

-- the same, where nothing is said of what was written
abbrev pub EndsSo : (Output → Type 0) → ℕ → ℕ → Status → Type 0
EndsSo IsGiven steps steps_now status = GivesOrWants status IsGiven (IsReached steps steps_now status)

abbrev pub BeginsToCheck : (Output → Type 0) → ℕ → ℕ → Type 0
BeginsToCheck IsGiven steps steps_now = Gives IsGiven (IsCountedTo steps steps_now)

-- the run came to its end: all statements are good, or some are not
abbrev pub IsEnded : Status → Type 0
IsEnded status = (status ≡ Done) ⊎ (status ≡ SomeNotGood)

-- how often the source, the sink and the library have failed
pub record Counts : Type 0 where
  pub reads : ℕ
  pub writes : ℕ
  pub finds : ℕ

-- at most one of the three counts of faults rose, and the status says which; want of memory is no fault
abbrev pub ComesBy : Counts → Counts → Status → Type 0
ComesBy before now ReadFault = (before.reads < now.reads) × (now.writes ≡ before.writes) × (now.finds ≡ before.finds)
ComesBy before now WriteFault = (now.reads ≡ before.reads) × (before.writes < now.writes) × (now.finds ≡ before.finds)
ComesBy before now LibraryFault = (now.reads ≡ before.reads) × (now.writes ≡ before.writes) × (before.finds < now.finds)
ComesBy before now BadCommand = ⊥
ComesBy before now _ = (now.reads ≡ before.reads) × (now.writes ≡ before.writes) × (now.finds ≡ before.finds)
