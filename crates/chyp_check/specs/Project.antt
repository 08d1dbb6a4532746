-- A main text with the modules that are there, and which of them reach which.
use Rattle.std.specs.Prelude.{◌≡◌, ℕ, ◌<◌, ◌≤◌, true, Bool, List, [], ◌∷◌, All, Option, None, find, length, map, slice_index_or, ◌↔◌}
use Rattle.std.specs.Option.{option_map}
use Rattle.std.specs.Str.{bytes_eq}
use Rattle.chyp_lex.specs.Tokens.{text_limit}
use Rattle.chyp_modules.specs.Checking.{AreDistinct}
use Rattle.chyp_modules.specs.Import.{Reaches}
use Rattle.chyp_modules.specs.Library.{Library, Module}
use Rattle.chyp_reach.specs.Relation.{relates}

-- a name with its text
abbrev pub Node : Type 0
Node = List ℕ × List ℕ

-- a module that is there, and whose name isn't that of the main text
abbrev pub node_of : Module → Option Node
node_of ([], text) = None
node_of (byte ∷ name, text) = option_map (λ (whole : List ℕ). (byte ∷ name, whole)) text

-- the library that has these texts and no other
abbrev pub library_in : List Node → Library
library_in nodes name = option_map (λ (node : Node). node.1) (find (λ (node : Node). bytes_eq name node.0) nodes)

abbrev pub node_at : List Node → ℕ → Node
node_at nodes number = slice_index_or nodes number ([], [])

-- the name of the node of this number
abbrev pub name_at : List Node → ℕ → List ℕ
name_at nodes number = (node_at nodes number).0

-- and its text
abbrev pub text_at : List Node → ℕ → List ℕ
text_at nodes number = (node_at nodes number).1

-- some texts with their names, and for each of them a row with a mark for each text
pub record Project : Type 0 where
  pub nodes : List Node
  pub rows : List (List Bool)

-- the rows say which nodes reach which
abbrev pub Reflects : List Node → List (List Bool) → Type 0
Reflects nodes rows = (i j : ℕ) → i < length nodes → j < length nodes
    → relates rows i j ≡ true ↔ Reaches (library_in nodes) (name_at nodes i) (name_at nodes j)

-- no name stands there twice
abbrev pub HaveDistinctNames : List Node → Type 0
HaveDistinctNames nodes = AreDistinct (map (λ (node : Node). node.0) nodes)

-- the texts of some nodes are short enough
abbrev pub HaveShortTexts : List Node → Type 0
HaveShortTexts nodes = All (λ (node : Node). length node.1 ≤ text_limit) nodes

-- the names are distinct, no text is too long, and the row of each text marks those that it reaches
pub record IsMapped (project : Project) : Type 0 where
  pub distinct : HaveDistinctNames project.nodes
  pub short : HaveShortTexts project.nodes
  pub many : length project.rows ≡ length project.nodes
  pub reflects : Reflects project.nodes project.rows
