-- Edges under new numbers. No public clause cites this.
use Rattle.std.specs.Prelude.{ℕ, List, map, slice_index}
use Rattle.chyp_graph.specs.PlainGraph.{Edge}
use Rattle.chyp_replace.specs.declared.numbers.Numbers.{Numbers}

-- the edge with its sources and its targets under new numbers, by a table for each
abbrev pub renumbered_edge : List ℕ → List ℕ → Edge → Edge
renumbered_edge users makers e =
    record {
      name = e.name;
      sources = map (slice_index users) e.sources;
      targets = map (slice_index makers) e.targets;
    }

-- the same by the tables of these numbers
abbrev pub renumbered_by : Numbers → Edge → Edge
renumbered_by numbers e = renumbered_edge numbers.users.items numbers.makers.items e
