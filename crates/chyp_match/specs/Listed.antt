-- The edges of a name and the wires of a sort, in order.
use Rattle.std.specs.Prelude.{ℕ, ◌≡◌, Bool, List, length, map, filter}
use Rattle.std.specs.List.{zip}
use Rattle.std.specs.Str.{bytes_eq}
use Rattle.chyp_term.specs.Perm.{count_from}
use Rattle.chyp_graph.specs.PlainGraph.{PlainGraph}
use Rattle.chyp_match.specs.Lists.{list_of}

-- the numbers of the items that pass the test, in order
abbrev pub ids_where : {T : Type 0} → (T → Bool) → List (ℕ × T) → List ℕ
ids_where test items = map (λ e. e.0) (filter (λ e. test e.1) items)

-- each item with its place, from n on
abbrev pub numbered_from : {T : Type 0} → ℕ → List T → List (ℕ × T)
numbered_from n items = zip (count_from n (length items)) items

-- the edges of this name, in order
abbrev pub edges_named : PlainGraph → List ℕ → List ℕ
edges_named g name = ids_where (λ e. bytes_eq name e.name) (numbered_from 0 g.edges)

-- the wires of the sort of this name, in order
abbrev pub wires_sorted : PlainGraph → List ℕ → List ℕ
wires_sorted g name = ids_where (λ sort. bytes_eq name sort.name) (numbered_from 0 g.wires)

-- the lists are those of the edges by their names, and of the wires by their sorts
pub record AreLists (g : PlainGraph) (named of_sort : List (List ℕ × List ℕ)) : Type 0 where
  pub edges : (name : List ℕ) → list_of name named ≡ edges_named g name
  pub wires : (name : List ℕ) → list_of name of_sort ≡ wires_sorted g name
