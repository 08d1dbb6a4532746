-- Where an edge of a plain graph meets its wires.
use Rattle.std.specs.Prelude.{ℕ, ◌≡◌, Bool, true, false, cond, eqb, List, [], ◌∷◌, Option, Some, None, slice_get}
use Rattle.std.specs.Option.{option_and_then}
use Rattle.chyp_graph.specs.PlainGraph.{Edge, PlainGraph}
use Rattle.chyp_pairs.specs.declared.pair.Pair.{Pair}
use Rattle.chyp_pairs.specs.declared.pair.Pair.TheVariants.{Edges}

-- the two sides of an edge
pub data Side : Type 0 where
  the_sources : Side
  the_targets : Side

-- the wires of the edge on this side, in order
abbrev pub ports_on : Side → Edge → List ℕ
ports_on the_sources e = e.sources
ports_on the_targets e = e.targets

-- the i-th wire of the edge k on this side
abbrev pub port_at : PlainGraph → Side → ℕ → ℕ → Option ℕ
port_at g side k i = option_and_then (λ e. slice_get (ports_on side e) i) (slice_get g.edges k)

-- the wire w is the i-th of the edge k on this side
abbrev pub IsPortAt : PlainGraph → Side → ℕ → ℕ → ℕ → Type 0
IsPortAt g side k i w = port_at g side k i ≡ Some w

-- two ports, each an edge and a place, stand at one place, or neither is there
abbrev pub at_one_place : Option (ℕ × ℕ) → Option (ℕ × ℕ) → Bool
at_one_place None None = true
at_one_place None (Some q) = false
at_one_place (Some p) None = false
at_one_place (Some p) (Some q) = eqb p.1 q.1

-- the edges of two ports at one place
abbrev pub port_pairs : Option (ℕ × ℕ) → Option (ℕ × ℕ) → List Pair
port_pairs None None = []
port_pairs None (Some q) = []
port_pairs (Some p) None = []
port_pairs (Some p) (Some q) = cond (eqb p.1 q.1) (Edges p.0 q.0 ∷ []) []
