-- Valid plain graphs: monogamous and acyclic (Bonchi, Gadducci, Kissinger, Sobociński and Zanasi, String Diagram
-- Rewrite Theory II).
use Rattle.std.specs.Prelude.{ℕ, zero, suc, ◌≡◌, Bool, List, [], ◌++◌, length, filter}
use Rattle.std.specs.List.{list_all}
use Rattle.chyp_term.specs.Perm.{IsPermutation}
use Rattle.chyp_term.specs.Positions.{is_among}
use Rattle.chyp_graph.specs.PlainGraph.{Edge, PlainGraph, sources_of, targets_of}

-- each source of the edge is among the live wires
abbrev pub is_ready : List ℕ → Edge → Bool
is_ready live e = list_all (is_among live) e.sources

-- the edges that are taken away within n rounds: in each round those whose sources are inputs, or targets of edges that
-- were taken away in an earlier round
abbrev pub taken_within : PlainGraph → ℕ → List Edge
taken_within g zero = []
taken_within g (suc n) = filter (is_ready (g.inputs ++ targets_of (taken_within g n))) g.edges

-- valid: monogamous and acyclic
pub record IsValid (g : PlainGraph) : Type 0 where
  -- each wire is once an input or a target
  pub producers : IsPermutation (length g.wires) (g.inputs ++ targets_of g.edges)
  -- each wire is once an output or a source
  pub consumers : IsPermutation (length g.wires) (g.outputs ++ sources_of g.edges)
  -- round by round, every edge is taken away
  pub acyclic : taken_within g (length g.edges) ≡ g.edges
