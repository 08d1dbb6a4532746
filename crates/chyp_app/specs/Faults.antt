-- Why a read ends early.
use Rattle.std.specs.Prelude.{◌≡◌, ℕ, ◌<◌}
use Rattle.chyp_app.specs.declared.read.ReadStop.{ReadStop}
use Rattle.chyp_app.specs.declared.read.ReadStop.TheVariants.{Failed, NoMemory}

-- `Failed` only where the count of faults rose
abbrev pub StopsReading : ℕ → ℕ → ReadStop → Type 0
StopsReading before now Failed = before < now
StopsReading before now NoMemory = now ≡ before
