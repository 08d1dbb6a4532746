-- Columns: the layers of a drawing, by longest paths (Sugiyama, Tagawa and Toda, Methods for Visual Understanding of
-- Hierarchical System Structures).
use Rattle.std.specs.Prelude.{ℕ, zero, suc, ◌≡◌, ◌+◌, ◌-◌, ◌^◌, ◌<◌, ◌≤◌, All, List, map, length, max, Option, option_map, unwrap_or, slice_index}
use Rattle.std.specs.List.{find, fold, sum_by}
use Rattle.chyp_term.specs.Positions.{is_among}
use Rattle.chyp_graph.specs.PlainGraph.{Edge, PlainGraph}
use Rattle.chyp_picture.specs.declared.end.End.{End}
use Rattle.chyp_picture.specs.declared.end.End.TheVariants.{Input, Output, Port}
use Rattle.chyp_layout.specs.declared.ends.Ends.{Ends}

-- the greatest of the numbers, 0 where there are none
abbrev pub greatest : List ℕ → ℕ
greatest ns = fold max 0 ns

-- the edge that makes the wire, if it is no input
abbrev pub producer_of : PlainGraph → ℕ → Option Edge
producer_of g w = find (λ e. is_among e.targets w) g.edges

-- the column of an edge, where at most n edges make wires one behind another: 1 more than the greatest column of the edges
-- that make its sources, where a source that is an input counts 0
abbrev pub column_along : PlainGraph → ℕ → Edge → ℕ
column_along g zero e = 0
column_along g (suc n) e = greatest (map (λ w. unwrap_or (option_map (column_along g n) (producer_of g w)) 0) e.sources) + 1

-- the columns of the edges, in edge order
abbrev pub columns_of : PlainGraph → List ℕ
columns_of g = map (column_along g (length g.edges)) g.edges

-- the column of an end: inputs stand in column 0, outputs in the one behind the last
abbrev pub end_column : List ℕ → End → ℕ
end_column columns (Input i) = 0
end_column columns (Output i) = greatest columns + 1
end_column columns (Port k i) = slice_index columns k

-- a wire bends once in each column strictly between its ends
abbrev pub bend_count : List ℕ → Ends → ℕ
bend_count columns x = end_column columns x.to - (end_column columns x.from + 1)

-- how many boxes and bends there are
abbrev pub point_count : List ℕ → List Ends → ℕ
point_count columns ends = length columns + sum_by (bend_count columns) ends

-- the columns of boxes with the last of them: the columns begin with 1, and there are fewer than 2 ^ 31 boxes and columns
pub record AreKept (columns : List ℕ) (last : ℕ) : Type 0 where
  pub greatest : last ≡ greatest columns
  pub few : length columns < 2 ^ 31
  pub low : last < 2 ^ 31
  pub each : All (λ n. (0 < n) × (n ≤ last)) columns
