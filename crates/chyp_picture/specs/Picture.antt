-- Whole pictures: what a list of boxes and a list of lines must be to be drawn.
use Rattle.std.specs.Prelude.{◌≡◌, ℕ, ◌+◌, ◌<◌, ◌≤◌, List, map, length, sum_by, All, slice_get, slice_index, Option, None, Some}
use Rattle.chyp_picture.specs.Limits.{height_bound, longest_name, most_lines, most_points}
use Rattle.chyp_picture.specs.declared.box_at.BoxAt.{BoxAt}
use Rattle.chyp_picture.specs.declared.end.End.{End}
use Rattle.chyp_picture.specs.declared.end.End.TheVariants.{Input, Output, Port}
use Rattle.chyp_picture.specs.declared.line.Line.{Line}
use Rattle.chyp_picture.specs.declared.picture.Picture.{Picture}

-- the column of a box that is there
abbrev pub box_column : Option BoxAt → ℕ
box_column None = 0
box_column (Some b) = b.column

-- the column in which an end stands: inputs in column 0, outputs in the one behind the last, and a port in its box's column
abbrev pub column_of : Picture → End → ℕ
column_of p (Input i) = 0
column_of p (Output i) = p.columns + 1
column_of p (Port b i) = box_column (slice_get p.boxes b)

-- a line begins at an input or at a port of a box that is there
abbrev pub IsStart : Picture → End → Type 0
IsStart p (Input i) = Unit {0}
IsStart p (Output i) = ⊥
IsStart p (Port b i) = b < length p.boxes

-- a line ends at an output or at a port of a box that is there
abbrev pub IsGoal : Picture → End → Type 0
IsGoal p (Input i) = ⊥
IsGoal p (Output i) = Unit {0}
IsGoal p (Port b i) = b < length p.boxes

-- the columns of a line's bends
abbrev pub bend_columns : Line → List ℕ
bend_columns l = map (λ b. b.column) l.bends

-- the line leads from an input or a port to an output or a port: its first bend stands one column after its start, each
-- bend one after the bend before it, and its end one after its last bend
pub record IsDrawn (p : Picture) (l : Line) : Type 0 where
  pub start : IsStart p l.from
  pub goal : IsGoal p l.to
  pub bends : (k : ℕ) → k < length l.bends → slice_index (bend_columns l) k ≡ column_of p l.from + 1 + k
  pub last : column_of p l.to ≡ column_of p l.from + 1 + length l.bends

-- the numbers from which the heights of a line are drawn are below their bound
pub record IsLowLine (l : Line) : Type 0 where
  pub from : l.y_from < height_bound
  pub to : l.y_to < height_bound
  pub bends : All (λ b. b.y < height_bound) l.bends

-- a box's name is not too long, and the numbers from which it is drawn are below their bound
pub record IsLowBox (b : BoxAt) : Type 0 where
  pub name : length b.name ≤ longest_name
  pub top : b.top < height_bound
  pub height : b.height < height_bound

-- how many bends the lines have together
abbrev pub bend_count : List Line → ℕ
bend_count ls = sum_by (λ l. length l.bends) ls

-- the picture is whole: each line leads from column to column, there are not too many boxes and bends nor lines, no name is
-- too long, and heights are below their bound (numbers that are no heights are below 2 ^ 32)
pub record IsWhole (p : Picture) : Type 0 where
  pub drawn : All (IsDrawn p) p.lines
  pub few_points : length p.boxes + bend_count p.lines ≤ most_points
  pub few_lines : length p.lines ≤ most_lines
  pub low_lines : All IsLowLine p.lines
  pub low_boxes : All IsLowBox p.boxes
  pub width : p.width < height_bound
  pub height : p.height < height_bound
