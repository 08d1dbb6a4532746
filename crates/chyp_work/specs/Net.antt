-- Graphs by numbers, and the graphs by places that they stand for.
use Rattle.std.specs.Prelude.{ℕ, ◌++◌, flat_map, cond, eqb, List, map, slice_set, All}
use Rattle.std.specs.Option.{option_map_or, unwrap_or}
use Rattle.chyp_term.specs.Positions.{place_of}
use Rattle.chyp_graph.specs.PlainGraph.{PlainGraph, renamed}
use Rattle.chyp_graph.specs.Validity.{IsValid}
use Rattle.chyp_store.specs.Items.{AreDistinct, ids, with_item}
use Rattle.chyp_match.specs.View.{IsIn, Net, Seen}
use Rattle.chyp_match.specs.View.{item_at}

-- the place of a number in a list of numbers
abbrev pub place_in : List ℕ → ℕ → ℕ
place_in ks w = unwrap_or (place_of w ks) 0

-- the plain graph, in which each wire is named by its place
abbrev pub plain : Net → PlainGraph
plain n =
    record {
      wires = map (λ e. e.1) n.wires;
      edges = map (λ e. renamed (place_in (ids n.wires)) e.1) n.edges;
      inputs = map (place_in (ids n.wires)) n.inputs;
      outputs = map (place_in (ids n.wires)) n.outputs;
    }

-- what a graph by numbers shows
abbrev pub seen_of : Net → Seen
seen_of n = record { graph = plain n; edge_ids = ids n.edges; wire_ids = ids n.wires }

-- each wire that the graph names is there
pub record IsClosed (n : Net) : Type 0 where
  pub ports : All (λ e. All (λ w. IsIn w n.wires) e.1.sources × All (λ w. IsIn w n.wires) e.1.targets) n.edges
  pub inputs : All (λ w. IsIn w n.wires) n.inputs
  pub outputs : All (λ w. IsIn w n.wires) n.outputs

-- a graph by numbers stands for a valid graph
pub record IsSound (n : Net) : Type 0 where
  pub closed : IsClosed n
  pub valid : IsValid (plain n)
  pub edges_apart : AreDistinct (ids n.edges)
  pub wires_apart : AreDistinct (ids n.wires)

-- with w as the i-th target of the edge k
abbrev pub with_target : Net → ℕ → ℕ → ℕ → Net
with_target n k i w = record n {
  edges = option_map_or (λ e. with_item k n.edges (record e { targets = slice_set e.targets i w }))
      (item_at k n.edges) n.edges;
}

-- with w as the i-th source of the edge k
abbrev pub with_source : Net → ℕ → ℕ → ℕ → Net
with_source n k i w = record n {
  edges = option_map_or (λ e. with_item k n.edges (record e { sources = slice_set e.sources i w }))
      (item_at k n.edges) n.edges;
}

-- v in place of w
abbrev pub put : ℕ → ℕ → ℕ → ℕ
put w v x = cond (eqb w x) v x

-- v made wherever w was made
abbrev pub made_for : Net → ℕ → ℕ → Net
made_for n w v = record n {
  edges = map (λ e. (e.0, record e.1 { targets = map (put w v) e.1.targets })) n.edges;
  inputs = map
      (put w v) n.inputs;
}

-- v used wherever w was used
abbrev pub used_for : Net → ℕ → ℕ → Net
used_for n w v = record n {
  edges = map (λ e. (e.0, record e.1 { sources = map (put w v) e.1.sources })) n.edges;
  outputs = map
      (put w v) n.outputs;
}

-- no wire is made twice
abbrev pub AreMadeOnce : Net → Type 0
AreMadeOnce n = AreDistinct (n.inputs ++ flat_map (λ e. e.1.targets) n.edges)

-- no wire is used twice
abbrev pub AreUsedOnce : Net → Type 0
AreUsedOnce n = AreDistinct (n.outputs ++ flat_map (λ e. e.1.sources) n.edges)
