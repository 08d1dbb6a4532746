-- What the verdicts of a module's statements say of its rewrites.
use Rattle.std.specs.Prelude.{◌≡◌, ℕ, ◌<◌, List, Some, slice_get, ◌⊎◌}
use Rattle.chyp_base.specs.declared.verdict.Verdict.{Verdict}
use Rattle.chyp_verdicts.specs.Explained.{Explains, Order}
use Rattle.chyp_modules.specs.Import.{Reaches}
use Rattle.chyp_modules.specs.Library.{Library}
use Rattle.chyp_modules.specs.Modules.{AreVerdicts, standing}

-- The one statement stands before the other: in the same module, with a smaller number, or in a module that the other's module
-- reaches and that doesn't reach that one back.
abbrev pub StandsBefore : Library → Order
StandsBefore library one other =
    ((one.home ≡ other.home) × (one.number < other.number)) ⊎ (Reaches library other.home one.home × ¬ Reaches library one.home other.home)

-- what the verdicts of the statements of a module say, one by one, is so
abbrev pub AreExplained : Library → List ℕ → List Verdict → Type 0
AreExplained library name verdicts = (number : ℕ) (verdict : Verdict) → slice_get verdicts number ≡ Some verdict
    → Explains (standing library) (StandsBefore library) (record { home = name; number = number }) verdict

-- so it is in each module of each library, and so in each main text
abbrev pub VerdictsAreExplained : Type 0
VerdictsAreExplained = (library : Library) (name : List ℕ) (verdicts : List Verdict) → AreVerdicts library name verdicts
    → AreExplained library name verdicts
