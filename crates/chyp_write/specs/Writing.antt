-- What a writer promises.
use Rattle.std.specs.Prelude.{◌≡◌, ℕ, ◌<◌, List, Option, Result, take, OnOk, OnErr}
use Rattle.std.specs.Io.KnownBytes.{Appends}

-- The sink held the first and holds the second, and its count of faults was the one and is the other: on Ok the text was
-- appended and the count stayed, and on Err a prefix of it was appended and the count rose.
pub record Writes {T E : Type 0} (held held_now : Option (List ℕ)) (faults faults_now : ℕ) (result : Result T E)
    (text : List ℕ) : Type 0 where
  pub whole : OnOk result (Appends held held_now text)
  pub kept : OnOk result (faults_now ≡ faults)
  pub prefix : OnErr result ((n : ℕ) × Appends held held_now (take n text))
  pub rose : OnErr result (faults < faults_now)
