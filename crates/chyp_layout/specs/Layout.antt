-- Why a graph gets no picture.
use Rattle.std.specs.Prelude.{ℕ, ◌≡◌, ◌<◌}
use Rattle.chyp_picture.specs.Limits.{most_points}
use Rattle.chyp_layout.specs.declared.layout_error.LayoutError.{LayoutError}
use Rattle.chyp_layout.specs.declared.layout_error.LayoutError.TheVariants.{NoMemory, TooBig}

-- the picture has so many boxes and bends, which are too many; want of memory has no cause in the graph
abbrev pub IsCause : ℕ → LayoutError → Type 0
IsCause points (TooBig n) = (most_points < points) × (n ≡ points)
IsCause points NoMemory = Unit {0}
