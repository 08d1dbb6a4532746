-- Stacks of levels.
use Rattle.std.specs.Prelude.{ℕ, List}
use Rattle.chyp_match.specs.declared.level.Level.{Level}

-- levels, and how many there may be
pub record Stack : Type 0 where
  pub levels : List Level
  pub room : ℕ
