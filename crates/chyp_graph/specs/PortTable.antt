-- The ports on one side of an edge, written into a table. No public clause cites this.
use Rattle.std.specs.Prelude.{ℕ, ◌<◌, ◌^◌, All, ◌≡◌, true, List, length, Option, Some, slice_get, ◌⊎◌}
use Rattle.chyp_term.specs.Positions.{is_apart}
use Rattle.chyp_graph.specs.PlainGraph.{Edge}
use Rattle.chyp_graph.specs.declared.side.Side.{Side}
use Rattle.chyp_graph.specs.declared.side.Side.TheVariants.{Sources, Targets}

-- the wires of the edge on this side, in order
abbrev pub ports_on : Side → Edge → List ℕ
ports_on Sources e = e.sources
ports_on Targets e = e.targets

-- the edge has few ports on this side, each of them one of n wires
abbrev pub HasPortsWithin : Side → ℕ → Edge → Type 0
HasPortsWithin side n e = (length (ports_on side e) < 2 ^ 32) × All (λ w. w < n) (ports_on side e)

-- each of the wires is noted as a port of the edge, at a place where it stands in the list, and the rest stays
abbrev pub AreNoted : ℕ → List ℕ → List (Option (ℕ × ℕ)) → List (Option (ℕ × ℕ)) → Type 0
AreNoted edge wires before after = (length after ≡ length before) × ((w : ℕ) (entry : Option (ℕ × ℕ)) → slice_get after w ≡ Some entry
    → ((slice_get before w ≡ Some entry) × (is_apart wires w ≡ true)) ⊎ ((i : ℕ) × (entry ≡ Some (edge, i)) × (slice_get wires i ≡ Some w)))
