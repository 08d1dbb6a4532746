-- Which edges the rounds of extraction place, told by the rounds of validity. No public clause cites this.
use Rattle.std.specs.Prelude.{ℕ, suc, not, ◌&&◌, List, filter}
use Rattle.chyp_graph.specs.PlainGraph.{Edge, PlainGraph}
use Rattle.chyp_graph.specs.Rounds.{is_taken_within}

-- the edges that aren't taken away within n rounds
abbrev pub left_after : PlainGraph → ℕ → List Edge
left_after g n = filter (λ e. not (is_taken_within g e n)) g.edges

-- those that the next round takes away
abbrev pub placed_after : PlainGraph → ℕ → List Edge
placed_after g n = filter (λ e. is_taken_within g e (suc n) && not (is_taken_within g e n)) g.edges
