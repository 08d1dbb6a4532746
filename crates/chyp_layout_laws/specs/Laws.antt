-- What the picture of a graph promises, over all graphs.
use Rattle.std.specs.Prelude.{ℕ, ◌≡◌, ◌≢◌, ◌⊎◌, ◌+◌, ◌^◌, ◌<◌, ◌≤◌, All, List, map, length, Some, slice_get}
use Rattle.chyp_graph.specs.PlainGraph.{Edge, PlainGraph}
use Rattle.chyp_graph.specs.Validity.{IsValid}
use Rattle.chyp_picture.specs.Crossings.{crossings_of}
use Rattle.chyp_picture.specs.Limits.{longest_name, most_points}
use Rattle.chyp_picture.specs.Picture.{IsDrawn, IsWhole, bend_count, column_of}
use Rattle.chyp_picture.specs.declared.box_at.BoxAt.{BoxAt}
use Rattle.chyp_picture.specs.declared.picture.Picture.{Picture}
use Rattle.chyp_layout.specs.Columns.{columns_of, greatest}
use Rattle.chyp_layout.specs.Ends.{ends_of, from_of}
use Rattle.chyp_layout.specs.Order.{first_order}
use Rattle.chyp_layout.specs.PictureOf.{picture_in, picture_of, points_of}
use Rattle.chyp_layout_laws.specs.Reading.{read}

-- the picture of the first order, before any sweep
abbrev pub first_picture : PlainGraph → Picture
first_picture g = picture_in g (first_order (columns_of g) (ends_of g))

-- sweeps never make more crossings than the first order has
abbrev pub CrossingsAreFew : Type 0
CrossingsAreFew = (g : PlainGraph) → crossings_of (picture_of g) ≤ crossings_of (first_picture g)

-- the boxes stand in the columns of the edges
abbrev pub BoxesStandInColumns : Type 0
BoxesStandInColumns = (g : PlainGraph) → map (λ b. b.column) (picture_of g).boxes ≡ columns_of g

-- the columns in which the wires begin
abbrev pub starts_of : PlainGraph → List ℕ → List ℕ
starts_of g wires = map (λ w. column_of (picture_of g) (from_of g w)) wires

-- in a valid graph each box stands one column after the last of those in which its sources begin: an input begins in column
-- 0, and any other wire at the box that makes it; a box without sources stands in column 1
abbrev pub BoxesFollowTheirSources : Type 0
BoxesFollowTheirSources =
    (g : PlainGraph) → IsValid g → (k : ℕ) (e : Edge) (b : BoxAt) → slice_get g.edges k ≡ Some e → slice_get (picture_of g).boxes k ≡ Some b
    → b.column ≡ greatest (starts_of g e.sources) + 1

-- the one box stands below the other, with at least 20 between them
abbrev pub IsBelow : BoxAt → BoxAt → Type 0
IsBelow a b = b.top + b.height + 20 ≤ a.top

-- of two boxes in one column, one stands below the other
abbrev pub BoxesAreApart : Type 0
BoxesAreApart =
    (g : PlainGraph) (j k : ℕ) (a b : BoxAt) → slice_get (picture_of g).boxes j ≡ Some a → slice_get (picture_of g).boxes k ≡ Some b
    → j ≢ k → a.column ≡ b.column → (IsBelow a b) ⊎ (IsBelow b a)

-- the lines of a valid graph lead to the right, from an input or a box to a box or an output, with one bend in each column
-- between
abbrev pub LinesPassAllColumns : Type 0
LinesPassAllColumns = (g : PlainGraph) → IsValid g → All (IsDrawn (picture_of g)) (picture_of g).lines

-- the picture has the boxes and bends that are counted before it is made
abbrev pub PointsAreCounted : Type 0
PointsAreCounted = (g : PlainGraph) → length (picture_of g).boxes + bend_count (picture_of g).lines ≡ points_of g

-- the graph is valid, it has not too many boxes and bends and fewer than 2 ^ 31 wires, and no name is too long
pub record IsDrawable (g : PlainGraph) : Type 0 where
  pub valid : IsValid g
  pub few_points : points_of g ≤ most_points
  pub few_wires : length g.wires < 2 ^ 31
  pub names : All (λ e. length e.name ≤ longest_name) g.edges

-- the picture of such a graph can be drawn
abbrev pub PicturesAreWhole : Type 0
PicturesAreWhole = (g : PlainGraph) → IsDrawable g → IsWhole (picture_of g)

-- what is read from the picture of a valid graph is the graph
abbrev pub PicturesAreReadBack : Type 0
PicturesAreReadBack = (g : PlainGraph) → IsValid g → read (picture_of g) ≡ g

-- valid graphs with the same picture are the same
abbrev pub PicturesTellGraphsApart : Type 0
PicturesTellGraphsApart = (g h : PlainGraph) → IsValid g → IsValid h → picture_of g ≡ picture_of h → g ≡ h
