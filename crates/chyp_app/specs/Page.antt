-- What contracts see of a page.
use Rattle.std.specs.Prelude.{ℕ, List}

-- the bytes that were written, and how often it has failed
pub record PageState : Type 0 where
  pub bytes : List ℕ
  pub faults : ℕ
