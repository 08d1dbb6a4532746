-- Which numbers are images. No public clause cites this.
use Rattle.std.specs.Prelude.{ℕ, ◌<◌, ◌≡◌, Bool, List, length, Some, slice_get}
use Rattle.chyp_term.specs.Positions.{is_among}

-- n marks, each of which says whether its number is one of the images
pub record AreMarked (images : List ℕ) (n : ℕ) (marks : List Bool) : Type 0 where
  pub size : length marks ≡ n
  pub each : (k : ℕ) → k < n → slice_get marks k ≡ Some (is_among images k)
