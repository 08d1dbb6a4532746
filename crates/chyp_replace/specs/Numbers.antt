-- New numbers of wires. No public clause cites this.
use Rattle.std.specs.Prelude.{ℕ, ◌<◌, ◌≡◌, List, length, slice_index}
use Rattle.chyp_term.specs.Positions.{place_of}
use Rattle.chyp_graph.specs.Composition.{inner, joined_at}

-- how many wires before w are no image
abbrev pub kept_before : List ℕ → ℕ → ℕ
kept_before images w = length (inner images w)

-- no two places of the list have one number
abbrev pub AreApart : List ℕ → Type 0
AreApart ws = (i j : ℕ) → i < length ws → j < length ws → slice_index ws i ≡ slice_index ws j → i ≡ j

-- the numbers after, where each of the wires takes the end at its place, and the rest stays
pub record AreRebound (wires ends before after : List ℕ) : Type 0 where
  pub size : length after ≡ length before
  pub each : (w : ℕ) → w < length before → slice_index after w ≡ joined_at ends (slice_index before w) (place_of w wires)
