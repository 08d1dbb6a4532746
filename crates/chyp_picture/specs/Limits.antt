-- How large a whole picture may be.
use Rattle.std.specs.Prelude.{ℕ}
use Rattle.chyp_picture.specs.declared.limits.TheConstants.{HEIGHT_BOUND, LONGEST_NAME, MOST_LINES, MOST_POINTS}

-- the most boxes and bends
abbrev pub most_points : ℕ
most_points = MOST_POINTS

-- the most lines
abbrev pub most_lines : ℕ
most_lines = MOST_LINES

-- the most bytes of a box's name
abbrev pub longest_name : ℕ
longest_name = LONGEST_NAME

-- the numbers from which heights are drawn are below this one
abbrev pub height_bound : ℕ
height_bound = HEIGHT_BOUND
