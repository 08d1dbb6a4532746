-- The numbers of the wires of a graph that is put behind another. No public clause cites this.
use Rattle.std.specs.Prelude.{ℕ, ◌+◌, ◌<◌, ◌≡◌, List, cond, length, map, slice_index}
use Rattle.chyp_term.specs.Perm.{count_from}
use Rattle.chyp_term.specs.Positions.{is_among}
use Rattle.chyp_graph.specs.Composition.{inner}
use Rattle.chyp_graph.specs.PlainGraph.{PlainGraph}

-- an input has the number that a table says, and the others count on from n
abbrev pub number_behind : ℕ → List ℕ → List ℕ → ℕ → ℕ
number_behind n table inputs w = cond (is_among inputs w) (slice_index table w) (n + length (inner inputs w))

-- the same of all wires of h
abbrev pub numbers_behind : ℕ → List ℕ → PlainGraph → List ℕ
numbers_behind n table h = map (number_behind n table h.inputs) (count_from 0 (length h.wires))

-- no two of the wires are equal
abbrev pub AreApart : List ℕ → Type 0
AreApart ws = (i j : ℕ) → i < length ws → j < length ws → slice_index ws i ≡ slice_index ws j → i ≡ j

-- the table has at each input the output that it joins, place by place
abbrev pub AreJoinedAt : List ℕ → List ℕ → List ℕ → Type 0
AreJoinedAt inputs outputs table = (j : ℕ) → j < length inputs → slice_index table (slice_index inputs j) ≡ slice_index outputs j
