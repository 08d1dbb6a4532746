-- What contracts see of a source in memory.
use Rattle.std.specs.Prelude.{ℕ, List}

-- the bytes left, the most bytes that a call gives, the numbers of the calls that fail, and how many
-- calls and faults there were
pub record SourceState : Type 0 where
  pub left : List ℕ
  pub piece : ℕ
  pub failing : List ℕ
  pub calls : ℕ
  pub faults : ℕ
