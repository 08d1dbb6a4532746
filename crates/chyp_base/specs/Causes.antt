-- When an outside object may fail: only where its count of faults rose, and else the count stays.
use Rattle.std.specs.Prelude.{◌≡◌, ℕ, ◌<◌, Result, OnOk, OnErr, MatchResult}
use Rattle.chyp_base.specs.declared.library_error.LibraryError.{LibraryError}
use Rattle.chyp_base.specs.declared.library_error.LibraryError.TheVariants.{Failed, NoMemory}

-- the count of faults stayed at `Ok`, and rose at `Err`
pub record HasCause {T E : Type 0} (before now : ℕ) (result : Result T E) : Type 0 where
  pub kept : OnOk result (now ≡ before)
  pub rose : OnErr result (before < now)

-- at `Failed` the count of faults rose; want of memory is no fault
abbrev pub CausedBy : ℕ → ℕ → LibraryError → Type 0
CausedBy before now Failed = before < now
CausedBy before now NoMemory = now ≡ before

-- a library's count of faults rose at `Failed`, and stayed at every other answer
abbrev pub LibraryHasCause : {T : Type 0} → ℕ → ℕ → Result T LibraryError → Type 0
LibraryHasCause before now result = MatchResult result (λ _. now ≡ before) (CausedBy before now)
